-- Sets that only grow stop within as many rounds as there are states. Assumes nothing.
use Rattle.std.proofs.Common.{◌≡◌, ℕ, zero, suc, ◌<◌, ◌≤◌, Bool, true, false, cond, ◌⊎◌, sym, refl, ap, ◌∙◌, subst, inl, inr, ⊎_elim, arith}
use Rattle.std.proofs.lemmas.Bool.{cases_lt, both_ways}
use Rattle.certificates.specs.Support.{same_side}
use Rattle.certificates.specs.Rounds.{GrowthStops}
use Rattle.certificates.proofs.Sides.{same_true, same_false, eq_same}

-- how many of the first n states have the side w
abbrev pub tally : Bool → (ℕ → Bool) → ℕ → ℕ
tally w X zero = 0
tally w X (suc n) = cond (same_side (X n) w) (suc (tally w X n)) (tally w X n)

pub tally_le : (w : Bool) (X : ℕ → Bool) (n : ℕ) → tally w X n ≤ n
tally_le w X zero = omega arith
tally_le w X (suc n) = go (same_side (X n) w) (tally_le w X n)
  where
    go : (v : Bool) → tally w X n ≤ n → cond v (suc (tally w X n)) (tally w X n) ≤ suc n
    go true h = omega arith
    go false h = omega arith

-- where Y has w wherever X has it, either they are the same, or Y has it more often
module _ (w : Bool) (X Y : ℕ → Bool) where
  abbrev SameTo : ℕ → Type 0
  SameTo n = (q : ℕ) → q < n → Y q ≡ X q

  one_further : (n : ℕ) → Y n ≡ X n → SameTo n → SameTo (suc n)
  one_further n e f q l = ⊎_elim (λ y. f q y) (λ y. let z : n ≡ q = omega arith in subst (λ x. Y x ≡ X x) z e) (cases_lt q n)

  pub more : (n : ℕ) → ((q : ℕ) → q < n → X q ≡ w → Y q ≡ w) → (SameTo n × (tally w X n ≡ tally w Y n)) ⊎ (tally w X n < tally w Y n)
  more zero h = inl (λ q l. absurd (omega arith), refl)
  more (suc n) h = go (same_side (X n) w) (same_side (Y n) w) refl refl (more n (λ q l. h q (omega arith)))
    where
      one : Bool → (ℕ → Bool) → ℕ
      one v Z = cond v (suc (tally w Z n)) (tally w Z n)

      go : (u v : Bool) → same_side (X n) w ≡ u → same_side (Y n) w ≡ v → (SameTo n × (tally w X n ≡ tally w Y n)) ⊎ (tally w X n < tally w Y n) →
          (SameTo (suc n) × (one u X ≡ one v Y)) ⊎ (one u X < one v Y)
      go true true a b (inl r) = inl (one_further n (same_true (Y n) w b ∙ sym (same_true (X n) w a)) r.0, ap suc r.1)
      go true true a b (inr r) = inr (omega arith)
      go false false a b (inl r) = inl (one_further n (same_false (Y n) w b ∙ sym (same_false (X n) w a)) r.0, r.1)
      go false false a b (inr r) = inr r
      go false true a b (inl r) = inr (omega (arith, r.1))
      go false true a b (inr r) = inr (omega arith)
      go true false a b r = absurd (both_ways (same_side (Y n) w) b (eq_same (Y n) w (h n (omega arith) (same_true (X n) w a))))

module _ (N : ℕ) (w : Bool) (X : ℕ → ℕ → Bool) (grows : (i q : ℕ) → i ≤ N → q < N → X i q ≡ w → X (suc i) q ≡ w) where
  abbrev Stopped : Type 0
  Stopped = (m : ℕ) × (m ≤ N) × ((q : ℕ) → q < N → X (suc m) q ≡ X m q)

  -- each round that does not stop makes the set larger
  stopped_or : (i : ℕ) → i ≤ suc N → Stopped ⊎ (i ≤ tally w (X i) N)
  stopped_or zero l = inr (omega arith)
  stopped_or (suc i) l = go (stopped_or i (omega arith)) (more w (X i) (X (suc i)) N (λ q lq e. grows i q (omega arith) lq e))
    where
      go : Stopped ⊎ (i ≤ tally w (X i) N) →
          (((q : ℕ) → q < N → X (suc i) q ≡ X i q) × (tally w (X i) N ≡ tally w (X (suc i)) N)) ⊎ (tally w (X i) N < tally w (X (suc i)) N) →
          Stopped ⊎ (suc i ≤ tally w (X (suc i)) N)
      go (inl h) r = inl h
      go (inr h) (inl r) = inl (i, omega arith, r.0)
      go (inr h) (inr r) = inr (omega arith)

pub growth_stops : GrowthStops
growth_stops N w X grows = ⊎_elim (λ h. h) (λ h. absurd (omega (arith, tally_le w (X (suc N)) N))) (stopped_or N w X grows (suc N) (omega arith))
