-- Parts of a numbered list, and what holds of each number of a range. Assumes nothing.
use Rattle.std.proofs.Common.{◌≡◌, ℕ, suc, ◌+◌, ◌<◌, ◌≤◌, List, [], ◌∷◌, ◌++◌, length, Some, refl, ◌∙◌, subst, ap₂, ⊎_elim, arith, length-append}
use Rattle.std.specs.List.{slice_get}
use Rattle.std.proofs.lemmas.Bool.{cases_lt}

module _ {X : Type 0} (R : ℕ → X → Type 0) where
  -- the elements of the list have the numbers from n on, where `R k x` says that x has the number k
  abbrev pub Segment : ℕ → List X → Type 0
  Segment n [] = Unit {0}
  Segment n (x ∷ xs) = R n x × Segment (suc n) xs

  pub segment_split : (n k : ℕ) (xs ys : List X) → length xs ≡ k → Segment n (xs ++ ys) → Segment n xs × Segment (n + k) ys
  segment_split n k [] ys e h = (tt, subst (λ i. Segment i ys) (omega arith) h)
  segment_split n k (x ∷ xs) ys e h =
      let r = segment_split (suc n) (length xs) xs ys refl h.1 in
      ((h.0, r.0), subst (λ i. Segment i ys) (omega arith) r.1)

  -- the last element apart
  pub segment_push : (n k : ℕ) (xs : List X) (x : X) → length xs ≡ k → Segment n (xs ++ x ∷ []) → Segment n xs × R (n + k) x
  segment_push n k xs x e h =
      let r = segment_split n k xs (x ∷ []) e h in
      (r.0, r.1.0)

  -- two parts and the last element
  pub two_parts : (n c d : ℕ) (xs ys : List X) (x : X) → length xs ≡ c → length ys ≡ d → Segment n (xs ++ ys ++ x ∷ []) →
      Segment n xs × Segment (n + c) ys × R (n + (c + d)) x
  two_parts n c d xs ys x e f h =
      let p = segment_push n (c + d) (xs ++ ys) x (length-append xs ys ∙ ap₂ ◌+◌ e f) h in
      let q = segment_split n c xs ys e p.0 in
      (q.0, q.1, p.1)

  -- a list all of whose elements have their numbers
  pub segment_from : (n : ℕ) (xs : List X) → ((i : ℕ) (x : X) → slice_get xs i ≡ Some x → R (n + i) x) → Segment n xs
  segment_from n [] h = tt
  segment_from n (x ∷ xs) h =
      (subst (λ k. R k x) (omega arith) (h 0 x refl), segment_from (suc n) xs (λ i y e. subst (λ k. R k y) (omega arith) (h (suc i) y e)))

-- what holds of the c numbers from n on
pub record Range (P : ℕ → Type 0) (n c : ℕ) : Type 0 where
  pub each : (k : ℕ) → n ≤ k → k < n + c → P k

pub range_none : {P : ℕ → Type 0} {n : ℕ} → Range P n 0
range_none = record { each = λ k l h. absurd (omega arith) }

pub range_join : {P : ℕ → Type 0} {n c d : ℕ} → Range P n c → Range P (n + c) d → Range P n (c + d)
range_join {P} {n} {c} {d} f g = record { each = λ k l h. ⊎_elim (λ lt. f.each k l lt) (λ le. g.each k le (omega arith)) (cases_lt k (n + c)) }

pub range_more : {P : ℕ → Type 0} {n c : ℕ} → Range P n c → P (n + c) → Range P n (suc c)
range_more {P} {n} {c} f p = record { each = λ k l h. ⊎_elim (λ lt. f.each k l lt) (λ le. subst P (omega arith) p) (cases_lt k (n + c)) }

pub range_map : {P Q : ℕ → Type 0} {n c : ℕ} → ((k : ℕ) → P k → Q k) → Range P n c → Range Q n c
range_map f h = record { each = λ k l g. f k (h.each k l g) }
