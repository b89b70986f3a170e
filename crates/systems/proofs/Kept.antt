-- Where the elements that pass a test stand in a list, and where they come to stand among those that are kept. Assumes nothing.
use Rattle.std.proofs.Common.{◌≡◌, ℕ, zero, suc, ◌+◌, ◌<◌, Bool, true, false, cond, List, [], ◌∷◌, map, length, get_or, take, Some, filter, sym, refl, ap, ◌∙◌, ⊎_elim, arith}
use Rattle.std.specs.List.{slice_get}
use Rattle.std.proofs.lemmas.List.Filters.{length-filter_more}
use Rattle.std.proofs.lemmas.Bool.{cond-true, cond-false, cases_Bool}

-- how many of the first n pass
abbrev pub passing : {X : Type 0} → (X → Bool) → List X → ℕ → ℕ
passing p xs n = length (filter p (take n xs))

-- what a function makes of an element and of the default, it makes of what is read anywhere
pub read_map : {X Y : Type 0} (f : X → Y) (xs : List X) (i : ℕ) (d : X) (e : Y) → f d ≡ e → get_or (map f xs) i e ≡ f (get_or xs i d)
read_map f [] i d e h = sym h
read_map f (x ∷ xs) zero d e h = refl
read_map f (x ∷ xs) (suc i) d e h = read_map f xs i d e h

-- an element that passes is kept, and stands behind those before it that pass
pub nth_kept : {X : Type 0} (p : X → Bool) (xs : List X) (n k : ℕ) (d : X) → k < n → k < length xs → p (get_or xs k d) ≡ true → slice_get (filter p (take n xs)) (passing p xs k) ≡ Some (get_or xs k d)
nth_kept p xs zero k d h l e = absurd (omega arith)
nth_kept p [] (suc n) k d h l e = absurd (omega arith)
nth_kept p (x ∷ xs) (suc n) zero d h l e = ap (λ ys. slice_get ys 0) (cond-true (p x) (x ∷ filter p (take n xs)) (filter p (take n xs)) e)
nth_kept p (x ∷ xs) (suc n) (suc k) d h l e =
    let ih = nth_kept p xs n k d (omega arith) (omega arith) e in
    elim (p x) as (λ b. slice_get (cond b (x ∷ filter p (take n xs)) (filter p (take n xs))) (length (cond b (x ∷ filter p (take k xs)) (filter p (take k xs)))) ≡ Some (get_or xs k d)) [ true ↦ ih | false ↦ ih ]

-- where the element i of those that are kept stood
pub record From {X : Type 0} (p : X → Bool) (xs : List X) (n i : ℕ) (d : X) : Type 0 where
  pub place : ℕ
  pub early : place < n
  pub within : place < length xs
  pub passes : p (get_or xs place d) ≡ true
  pub rank : passing p xs place ≡ i
  pub is : get_or (filter p (take n xs)) i d ≡ get_or xs place d

-- an element before those of a list, which passes or not
module _ {X : Type 0} (p : X → Bool) (x : X) (xs : List X) (n i : ℕ) (d : X) where
  from_here : p x ≡ true → From p (x ∷ xs) (suc n) 0 d
  from_here e = record { place = 0; early = omega arith; within = omega arith; passes = e; rank = refl; is = ap (λ ys. get_or ys 0 d) (cond-true (p x) (x ∷ filter p (take n xs)) (filter p (take n xs)) e) }

  from_yes : p x ≡ true → From p xs n i d → From p (x ∷ xs) (suc n) (suc i) d
  from_yes e f = record {
    place = suc f.place;
    early = omega (arith, f.early);
    within = omega (arith, f.within);
    passes = f.passes;
    rank = ap length (cond-true (p x) (x ∷ filter p (take f.place xs)) (filter p (take f.place xs)) e) ∙ ap suc f.rank;
    is = ap (λ ys. get_or ys (suc i) d) (cond-true (p x) (x ∷ filter p (take n xs)) (filter p (take n xs)) e) ∙ f.is;
  }

  from_no : p x ≡ false → From p xs n i d → From p (x ∷ xs) (suc n) i d
  from_no e f = record {
    place = suc f.place;
    early = omega (arith, f.early);
    within = omega (arith, f.within);
    passes = f.passes;
    rank = ap length (cond-false (p x) (x ∷ filter p (take f.place xs)) (filter p (take f.place xs)) e) ∙ f.rank;
    is = ap (λ ys. get_or ys i d) (cond-false (p x) (x ∷ filter p (take n xs)) (filter p (take n xs)) e) ∙ f.is;
  }

-- each element that is kept stood somewhere
pub kept_from : {X : Type 0} (p : X → Bool) (xs : List X) (n i : ℕ) (d : X) → i < passing p xs n → From p xs n i d
kept_from p xs zero i d h = absurd (omega arith)
kept_from p [] (suc n) i d h = absurd (omega arith)
kept_from p (x ∷ xs) (suc n) zero d h = ⊎_elim
    (from_here p x xs n 0 d)
    (λ e. from_no p x xs n 0 d e (kept_from p xs n 0 d (omega (arith, ap length (cond-false (p x) (x ∷ filter p (take n xs)) (filter p (take n xs)) e)))))
    (cases_Bool (p x))
kept_from p (x ∷ xs) (suc n) (suc i) d h = ⊎_elim
    (λ e. from_yes p x xs n i d e (kept_from p xs n i d (omega (arith, ap length (cond-true (p x) (x ∷ filter p (take n xs)) (filter p (take n xs)) e)))))
    (λ e. from_no p x xs n (suc i) d e (kept_from p xs n (suc i) d (omega (arith, ap length (cond-false (p x) (x ∷ filter p (take n xs)) (filter p (take n xs)) e)))))
    (cases_Bool (p x))

module _ {X : Type 0} (p : X → Bool) (xs : List X) (d : X) where
  -- one more element adds one if it passes
  pub passing_yes : (k : ℕ) → k < length xs → p (get_or xs k d) ≡ true → passing p xs (k + 1) ≡ passing p xs k + 1
  passing_yes k h e = length-filter_more p xs k d h ∙ ap (λ n. passing p xs k + n) (cond-true (p (get_or xs k d)) 1 0 e)

  pub passing_no : (k : ℕ) → k < length xs → p (get_or xs k d) ≡ false → passing p xs (k + 1) ≡ passing p xs k
  passing_no k h e = omega (arith, length-filter_more p xs k d h, cond-false {A = ℕ} (p (get_or xs k d)) 1 0 e)
