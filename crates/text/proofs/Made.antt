-- An array that is made place by place.
use Rattle.std.proofs.Common.{◌≡◌, ℕ, zero, suc, ◌+◌, ◌<◌, List, slice_index, sym, ap, ◌∙◌, subst, arith}
use denote.Param.Members.{Mut}
use Rattle.std.specs.Fn.{Called}
use Rattle.std.specs.Array.{IsFromFnResultFrom}

-- every call for a place i gives h i
module _ {F : Type 0} (g : Mut F (ℕ × Unit {0}) ℕ) (f : F) (h : ℕ → ℕ)
    (asks : (i r : ℕ) (q : F) → Called g f (i, tt) r q → (q ≡ f) × (r ≡ h i)) where
  pub made_at : (p : F) → p ≡ f → (ys : List ℕ) (i n : ℕ) → IsFromFnResultFrom g p ys i n → (j k : ℕ) → j ≡ i + k → k < n → slice_index ys j ≡ h j
  made_at p e ys i zero m j k w lt = absurd (omega arith)
  made_at p e ys i (suc n) m j zero w lt =
      let a = asks i m.1 m.0 (subst (λ q. Called g q (i, tt) m.1 m.0) e m.3) in
      let here : j ≡ i = omega (arith, w) in
      ap (slice_index ys) here ∙ m.2.1 0 ∙ a.1 ∙ ap h (sym here)
  made_at p e ys i (suc n) m j (suc k) w lt =
      let a = asks i m.1 m.0 (subst (λ q. Called g q (i, tt) m.1 m.0) e m.3) in
      made_at m.0 a.0 ys (i + 1) n m.4 j k (omega (arith, w)) (omega (arith, lt))
