-- The orders of ranks by their first places. Assumes nothing.
use Rattle.std.proofs.Common.{◌≡◌, ℕ, zero, suc, ◌<◌, ◌≤◌, Bool, true, false, ◌⊎◌, sym, ◌∙◌, subst, inl, inr, ⊎_elim, arith}
use Rattle.std.proofs.lemmas.Bool.{cases_lt, cases_eq, cases_order}
use Rattle.certificates.specs.Ranks.{Same, Earlier, NotLater}
use Rattle.certificates.specs.Support.{Passes}

-- in more places still earlier, in fewer places still not later
pub earlier_more : (k x : ℕ) (r s : ℕ → ℕ) → k ≤ x → Earlier k r s → Earlier x r s
earlier_more k x r s l h = (h.0, omega (arith, h.1), h.2, h.3)

pub fewer : (k x : ℕ) (r s : ℕ → ℕ) → k ≤ x → NotLater x r s → NotLater k r s
fewer k x r s l (inl h) = ⊎_elim (λ y. inl (h.0, y, h.2, h.3)) (λ y. inr (λ z lz. h.3 z (omega arith))) (cases_lt h.0 k)
fewer k x r s l (inr h) = inr (λ z lz. h z (omega arith))

-- what is the same in the first k places, or earlier there, compares alike
pub earlier_then : (k : ℕ) (r s t : ℕ → ℕ) → Earlier k r s → NotLater k s t → Earlier k r t
earlier_then k r s t h (inr e) = (h.0, h.1, omega (arith, h.2, e h.0 h.1), λ y ly. h.3 y ly ∙ e y (omega (arith, h.1)))
earlier_then k r s t h (inl g) = go (cases_order h.0 g.0)
  where
    go : (h.0 ≡ g.0) ⊎ ((h.0 < g.0) ⊎ (g.0 < h.0)) → Earlier k r t
    go (inl e) =
        let gx : s h.0 < t h.0 = subst (λ x. s x < t x) (sym e) g.2 in
        (h.0, h.1, omega (arith, h.2), λ y ly. h.3 y ly ∙ g.3 y (omega arith))
    go (inr (inl l)) = (h.0, h.1, omega (arith, h.2, g.3 h.0 l), λ y ly. h.3 y ly ∙ g.3 y (omega arith))
    go (inr (inr l)) = (g.0, g.1, omega (arith, g.2, h.3 g.0 l), λ y ly. h.3 y (omega arith) ∙ g.3 y ly)

pub not_later_trans : (k : ℕ) (r s t : ℕ → ℕ) → NotLater k r s → NotLater k s t → NotLater k r t
not_later_trans k r s t (inl h) g = inl (earlier_then k r s t h g)
not_later_trans k r s t (inr e) (inl g) = inl (g.0, g.1, omega (arith, g.2, e g.0 g.1), λ y ly. e y (omega (arith, g.1)) ∙ g.3 y ly)
not_later_trans k r s t (inr e) (inr g) = inr (λ y ly. e y ly ∙ g y ly)

-- however a claim passes, it is not later in the first places
pub passes_not_later : (b : Bool) (d : ℕ) (r s : ℕ → ℕ) → Passes b d r s → NotLater d r s
passes_not_later true d r s h = fewer d (suc d) r s (omega arith) (inl h)
passes_not_later false d r s h = h

-- what passes for ranks passes for ranks that are not earlier
pub passes_trans : (b : Bool) (d x : ℕ) (r s t : ℕ → ℕ) → d < x → NotLater x s t → Passes b d r s → Passes b d r t
passes_trans true d x r s t l u h = earlier_then (suc d) r s t h (fewer (suc d) x s t l u)
passes_trans false d x r s t l u h = not_later_trans d r s t h (fewer d x s t (omega arith) u)

-- zeros are not later than anything
pub zeros_not_later : (k : ℕ) (r s : ℕ → ℕ) → ((x : ℕ) → x < k → r x ≡ 0) → NotLater k r s
zeros_not_later zero r s h = inr (λ x l. absurd (omega arith))
zeros_not_later (suc k) r s h = go (zeros_not_later k r s (λ x l. h x (omega arith))) (cases_eq (r k) (s k))
  where
    go : NotLater k r s → (r k ≡ s k) ⊎ (r k ≡ s k → ⊥) → NotLater (suc k) r s
    go (inl g) e = inl (earlier_more k (suc k) r s (omega arith) g)
    go (inr g) (inl e) = inr (λ x l. ⊎_elim (λ y. g x y) (λ y. let z : k ≡ x = omega arith in subst (λ v. r v ≡ s v) z e) (cases_lt x k))
    go (inr g) (inr e) = inl (k, omega arith, omega (arith, h k (omega arith)), g)

module _ (r s r' s' : ℕ → ℕ) where
  -- the orders read the places alone
  pub earlier_moved : (k : ℕ) → Same k r' r → Same k s' s → Earlier k r s → Earlier k r' s'
  earlier_moved k a b h =
      (h.0, h.1, omega (arith, h.2, a h.0 h.1, b h.0 h.1), λ y l. let yk : y < k = omega (arith, h.1) in a y yk ∙ h.3 y l ∙ sym (b y yk))

  pub not_later_moved : (k : ℕ) → Same k r' r → Same k s' s → NotLater k r s → NotLater k r' s'
  not_later_moved k a b (inl h) = inl (earlier_moved k a b h)
  not_later_moved k a b (inr h) = inr (λ y l. a y l ∙ h y l ∙ sym (b y l))

  pub passes_moved : (v : Bool) (d : ℕ) → ((x : ℕ) → r' x ≡ r x) → ((x : ℕ) → s' x ≡ s x) → Passes v d r s → Passes v d r' s'
  passes_moved true d a b h = earlier_moved (suc d) (λ x l. a x) (λ x l. b x) h
  passes_moved false d a b h = not_later_moved d (λ x l. a x) (λ x l. b x) h

  -- one place, the same in both, put to another, the same in both
  module _ (d : ℕ) (old : r d ≡ s d) (new : r' d ≡ s' d) (left : (y : ℕ) → (y ≡ d → ⊥) → r' y ≡ r y) (right : (y : ℕ) → (y ≡ d → ⊥) → s' y ≡ s y) where
    same_put : (k : ℕ) → Same k r s → Same k r' s'
    same_put k h y l = ⊎_elim (λ e. subst (λ v. r' v ≡ s' v) (sym e) new) (λ n. left y n ∙ h y l ∙ sym (right y n)) (cases_eq y d)

    earlier_put : (k : ℕ) → Earlier k r s → Earlier k r' s'
    earlier_put k h =
        let n : h.0 ≡ d → ⊥ = λ e. let z : r h.0 ≡ s h.0 = subst (λ v. r v ≡ s v) (sym e) old in absurd (omega (arith, h.2)) in
        (h.0, h.1, omega (arith, h.2, left h.0 n, right h.0 n), same_put h.0 h.3)

    pub passes_put : (v : Bool) (e : ℕ) → Passes v e r s → Passes v e r' s'
    passes_put true e h = earlier_put (suc e) h
    passes_put false e (inl h) = inl (earlier_put e h)
    passes_put false e (inr h) = inr (same_put e h)
