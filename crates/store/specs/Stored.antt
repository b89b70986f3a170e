-- A store of records, the newest last, over a row of places.
use Rattle.std.specs.Prelude.{◌≡◌, ℕ, Bool, true, false, not, List, [], ◌∷◌, ◌++◌, length, take, Some, None, Option, ◌==◌, slice_set}

-- the records that are held: those in the first places, as many as the count says
abbrev pub held : {X : Type 0} → ℕ → List X → List X
held count places = take count places

-- x comes after what was held before, in the first free place, and no other place is written
abbrev pub Put : {X : Type 0} → X → List X → List X → List X → List X → Type 0
Put x before after places places' = (after ≡ before ++ (x ∷ [])) × (places' ≡ slice_set places (length before) x)

-- a push of x answers whether there was a free place
pub record Pushed {X : Type 0} (r : Bool) (x : X) (count : ℕ) (places : List X) (count' : ℕ) (places' : List X) : Type 0 where
  -- it is refused exactly if as many records are held as there are places
  pub answer : r ≡ not (length (held count places) == length places)
  -- a push that is not refused puts x there
  pub taken : r ≡ true → Put x (held count places) (held count' places') places places'
  -- a push that is refused changes nothing
  pub refused : r ≡ false → (count' ≡ count) × (places' ≡ places)

-- a take gives the newest record, or nothing exactly if none is held
abbrev pub Taken : {X : Type 0} → Option X → List X → List X → Type 0
Taken (Some x) before after = before ≡ after ++ (x ∷ [])
Taken None before after = (before ≡ []) × (after ≡ [])

-- a take after a push of x gives x, and leaves what was held before the push
abbrev pub LastInFirstOut : Type 0 → Type 0
LastInFirstOut X = (before pushed after : List X) (x : X) (r : Option X) → pushed ≡ before ++ (x ∷ []) → Taken r pushed after → (r ≡ Some x) × (after ≡ before)
