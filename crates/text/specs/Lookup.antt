-- The last of a list that passes a test.
use Rattle.std.specs.Prelude.{◌≡◌, ℕ, suc, ◌<◌, Bool, true, cond, List, [], ◌∷◌, Some, None, Option}
use Rattle.std.specs.List.{slice_get}

-- the index in a list with one more at its front: that of the rest, one further on, or else the front's if that passes
abbrev pub or_front : Bool → Option ℕ → Option ℕ
or_front front (Some i) = Some (suc i)
or_front front None = cond front (Some 0) None

-- the highest index at which the test passes
abbrev pub latest : {X : Type 0} → (X → Bool) → List X → Option ℕ
latest p [] = None
latest p (x ∷ xs) = or_front (p x) (latest p xs)

-- the test passes at i
abbrev pub PassesAt : {X : Type 0} → (X → Bool) → List X → ℕ → Type 0
PassesAt {X} p xs i = (x : X) × ((slice_get xs i ≡ Some x) × (p x ≡ true))

-- i is the highest index at which the test passes
pub record Highest {X : Type 0} (p : X → Bool) (xs : List X) (i : ℕ) : Type 0 where
  pub here : PassesAt p xs i
  pub above : (k : ℕ) → i < k → PassesAt p xs k → ⊥

-- the test passes nowhere
abbrev pub Nowhere : {X : Type 0} → (X → Bool) → List X → Type 0
Nowhere p xs = (k : ℕ) → PassesAt p xs k → ⊥

-- what is found is the highest index at which the test passes, and nothing exactly if it passes nowhere
pub record FindsHighest (X : Type 0) : Type 0 where
  pub found : (p : X → Bool) (xs : List X) (i : ℕ) → latest p xs ≡ Some i → Highest p xs i
  pub finds : (p : X → Bool) (xs : List X) (i : ℕ) → Highest p xs i → latest p xs ≡ Some i
  pub missed : (p : X → Bool) (xs : List X) → latest p xs ≡ None → Nowhere p xs
  pub misses : (p : X → Bool) (xs : List X) → Nowhere p xs → latest p xs ≡ None
