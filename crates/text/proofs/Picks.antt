-- The last of a list that passes a test.
use Rattle.std.proofs.Common.{◌≡◌, ℕ, zero, suc, ◌+◌, ◌<◌, Bool, true, false, List, [], ◌∷◌, ◌++◌, length, get_or, take, Some, None, Option, sym, refl, ap, ◌∙◌, subst, ⊎_elim, le_of_suc-le-suc, arith}
use Rattle.std.proofs.lemmas.List.{take_more, length-take-le}
use Rattle.std.proofs.lemmas.Option.{slice_get_past}
use Rattle.std.proofs.lemmas.Bool.{cases_order, cases_lt, both_ways}
use Rattle.text.specs.Lookup.{or_front, latest, PassesAt, Highest, Nowhere, FindsHighest}

-- nothing is not something
pub none_some : {X : Type 0} {C : Type 0} (x : X) → None ≡ Some x → C
none_some x e = let z : ◌≡◌ {A = ℕ} 0 1 = cc in absurd (omega arith)

module _ {X : Type 0} (p : X → Bool) where
  missed : (xs : List X) → latest p xs ≡ None → Nowhere p xs
  missed [] e = λ k w. none_some w.0 w.1.0
  missed (x ∷ xs) e = by (latest p xs) refl (p x) refl (missed xs)
    where
      by : (o : Option ℕ) → latest p xs ≡ o → (t : Bool) → p x ≡ t → (latest p xs ≡ None → Nowhere p xs) → Nowhere p (x ∷ xs)
      by (Some j) f t g rest k w = none_some (suc j) (sym e ∙ ap (or_front (p x)) f)
      by None f true g rest k w = none_some 0 (sym e ∙ (λ j. or_front (g j) (f j)))
      by None f false g rest zero w = let same : x ≡ w.0 = cc w.1.0 in both_ways (p x) g (ap p same ∙ w.1.1)
      by None f false g rest (suc k) w = rest f k w

  further : (x : X) (xs : List X) (j : ℕ) → Highest p xs j → Highest p (x ∷ xs) (suc j)
  further x xs j h = record { here = h.here; above = above }
    where
      above : (k : ℕ) → suc j < k → PassesAt p (x ∷ xs) k → ⊥
      above zero l w = absurd (omega arith)
      above (suc k) l w = h.above k (le_of_suc-le-suc l) w

  front : (x : X) (xs : List X) → p x ≡ true → Nowhere p xs → Highest p (x ∷ xs) 0
  front x xs e h = record { here = (x, (refl, e)); above = above }
    where
      above : (k : ℕ) → 0 < k → PassesAt p (x ∷ xs) k → ⊥
      above zero l w = absurd (omega arith)
      above (suc k) l w = h k w

  pub found : (xs : List X) (i : ℕ) → latest p xs ≡ Some i → Highest p xs i
  found [] i e = none_some i e
  found (x ∷ xs) i e = by (latest p xs) refl (p x) refl (found xs)
    where
      by : (o : Option ℕ) → latest p xs ≡ o → (t : Bool) → p x ≡ t → ((j : ℕ) → latest p xs ≡ Some j → Highest p xs j) → Highest p (x ∷ xs) i
      by (Some j) f t g rest =
          let is : suc j ≡ i = cc (sym (ap (or_front (p x)) f) ∙ e) in
          subst (Highest p (x ∷ xs)) is (further x xs j (rest j f))
      by None f true g rest =
          let is : 0 ≡ i = cc (sym (λ j. or_front (g j) (f j)) ∙ e) in
          subst (Highest p (x ∷ xs)) is (front x xs g (missed xs f))
      by None f false g rest = none_some i (sym (λ j. or_front (g j) (f j)) ∙ e)

  one : (xs : List X) (i j : ℕ) → Highest p xs i → Highest p xs j → i ≡ j
  one xs i j a b = ⊎_elim (λ e. e) (⊎_elim (λ lt. absurd (a.above j lt b.here)) (λ lt. absurd (b.above i lt a.here))) (cases_order i j)

  finds : (xs : List X) (i : ℕ) → Highest p xs i → latest p xs ≡ Some i
  finds xs i h = by (latest p xs) refl
    where
      by : (o : Option ℕ) → latest p xs ≡ o → latest p xs ≡ Some i
      by (Some j) e = e ∙ ap Some (one xs j i (found xs j e) h)
      by None e = absurd (missed xs e i h.here)

  misses : (xs : List X) → Nowhere p xs → latest p xs ≡ None
  misses xs h = by (latest p xs) refl
    where
      by : (o : Option ℕ) → latest p xs ≡ o → latest p xs ≡ None
      by (Some j) e = absurd (h j (found xs j e).here)
      by None e = e

  -- what is found is in the list
  pub within : (xs : List X) (i : ℕ) → latest p xs ≡ Some i → i < length xs
  within xs i e =
      let h = (found xs i e).here in
      ⊎_elim (λ lt. lt) (λ le. none_some h.0 (sym (slice_get_past xs i le) ∙ h.1.0)) (cases_lt i (length xs))

  -- one more at the end
  pub push_passed : (xs : List X) (y : X) → p y ≡ true → latest p (xs ++ (y ∷ [])) ≡ Some (length xs)
  push_passed [] y e = ap (λ t. or_front t None) e
  push_passed (x ∷ xs) y e = ap (or_front (p x)) (push_passed xs y e)

  pub push_failed : (xs : List X) (y : X) → p y ≡ false → latest p (xs ++ (y ∷ [])) ≡ latest p xs
  push_failed [] y e = ap (λ t. or_front t None) e
  push_failed (x ∷ xs) y e = ap (or_front (p x)) (push_failed xs y e)

  -- a search from the end, at the element x at i, with nothing found past it
  module _ (xs : List X) (i : ℕ) (x : X) (h : i < length xs) (read : x ≡ get_or xs i x) where
    up_to : latest p (take (i + 1) xs) ≡ latest p (take i xs ++ (x ∷ []))
    up_to = ap (latest p) (take_more xs i x h) ∙ ap (λ y. latest p (take i xs ++ (y ∷ []))) (sym read)

    pub latest_on : p x ≡ false → latest p (take (i + 1) xs) ≡ latest p (take i xs)
    latest_on e = up_to ∙ push_failed (take i xs) x e

    pub latest_here : p x ≡ true → latest p (take (i + 1) xs) ≡ Some i
    latest_here e = up_to ∙ push_passed (take i xs) x e ∙ ap Some (length-take-le i xs (omega arith))

-- nothing at the front and nothing in the rest
pub none_parts : (b : Bool) (o : Option ℕ) → or_front b o ≡ None → (b ≡ false) × (o ≡ None)
none_parts b (Some i) e = none_some (suc i) (sym e)
none_parts true None e = none_some 0 (sym e)
none_parts false None e = (refl, refl)

pub finds_highest : (X : Type 0) → FindsHighest X
finds_highest X = record { found = found; finds = finds; missed = missed; misses = misses }
