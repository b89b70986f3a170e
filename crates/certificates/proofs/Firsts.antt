-- The first round since which a side is there. Assumes nothing.
use Rattle.std.proofs.Common.{◌≡◌, ℕ, zero, suc, ◌<◌, ◌≤◌, Bool, true, false, cond, ◌⊎◌, sym, refl, subst, inl, inr, arith}
use Rattle.std.proofs.lemmas.Bool.{cases_lt}
use Rattle.certificates.specs.Support.{same_side}
use Rattle.certificates.specs.Merging.{first_since}
use Rattle.certificates.proofs.Sides.{same_true, eq_same}

module _ (side : ℕ → Bool) (w : Bool) where
  pub first_le : (i : ℕ) → first_since side w i ≤ i
  first_le zero = omega arith
  first_le (suc i) = go (same_side (side i) w) (first_le i)
    where
      go : (v : Bool) → first_since side w i ≤ i → cond v (first_since side w i) (suc i) ≤ suc i
      go true h = omega arith
      go false h = omega arith

  pub first_hit : (i : ℕ) → side i ≡ w → side (first_since side w i) ≡ w
  first_hit zero h = h
  first_hit (suc i) h = go (same_side (side i) w) refl (first_hit i)
    where
      go : (v : Bool) → same_side (side i) w ≡ v → (side i ≡ w → side (first_since side w i) ≡ w) → side (cond v (first_since side w i) (suc i)) ≡ w
      go true e r = r (same_true (side i) w e)
      go false e r = h

  -- where a side once reached stays, up to the round m
  module _ (m : ℕ) (grows : (i : ℕ) → i < m → side i ≡ w → side (suc i) ≡ w) where
    pub stays : (i x : ℕ) → x ≤ i → i ≤ m → side x ≡ w → side i ≡ w
    stays zero x l lm h = let e : x ≡ 0 = omega arith in subst (λ y. side y ≡ w) e h
    stays (suc i) x l lm h = go (cases_lt i x) (λ y. grows i (omega arith) (stays i x y (omega arith) h))
      where
        go : (i < x) ⊎ (x ≤ i) → (x ≤ i → side (suc i) ≡ w) → side (suc i) ≡ w
        go (inl y) r = let e : x ≡ suc i = omega arith in subst (λ z. side z ≡ w) e h
        go (inr y) r = r y

    pub first_least : (i x : ℕ) → x ≤ i → i ≤ m → side x ≡ w → first_since side w i ≤ x
    first_least zero x l lm h = omega arith
    first_least (suc i) x l lm h = go (cases_lt i x) (λ y. first_least i x y (omega arith) h)
      where
        go : (i < x) ⊎ (x ≤ i) → (x ≤ i → first_since side w i ≤ x) → first_since side w (suc i) ≤ x
        go (inl y) r = let e : suc i ≡ x = omega arith in subst (λ v. first_since side w (suc i) ≤ v) e (first_le (suc i))
        go (inr y) r = subst (λ v. cond v (first_since side w i) (suc i) ≤ x) (sym (eq_same (side i) w (stays i x y (omega arith) h))) (r y)
