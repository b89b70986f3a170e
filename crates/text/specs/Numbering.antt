-- Names that are numbered from 0 in the order in which they joined.
use Rattle.std.specs.Prelude.{◌≡◌, ℕ, ◌<◌, Bool, true, cond, not, ◌&&◌, T, List, [], ◌∷◌, ◌++◌, length, is_some, Some, Option}
use Rattle.std.specs.List.{slice_get}
use Rattle.text.specs.Lookup.{latest}
use Rattle.text.specs.Names.{same_name}
use Rattle.text.specs.declared.names.Name.{Name}

-- the most names that have numbers
abbrev pub names_limit : ℕ
names_limit = 64

-- the number of a name is the highest place where it stands
abbrev pub number_of : List Name → Name → Option ℕ
number_of names n = latest (λ m. same_name m n) names

-- no two of the names are the same
abbrev pub all_different : List Name → Bool
all_different [] = true
all_different (n ∷ ns) = not (is_some (number_of ns n)) && all_different ns

-- a name joins at the end, unless it is there already
abbrev pub join_one : List Name → Name → List Name
join_one names n = cond (is_some (number_of names n)) names (names ++ (n ∷ []))

-- names join one after the other
abbrev pub join_all : List Name → List Name → List Name
join_all names [] = names
join_all names (n ∷ ns) = join_all (join_one names n) ns

-- what joining leaves as it was, and what it brings about
pub record JoiningKeeps (old new : List Name) : Type 0 where
  -- the old names stay at the front
  pub extends : (more : List Name) × (join_all old new ≡ old ++ more)
  -- an old name keeps its number
  pub keeps : (n : Name) (i : ℕ) → number_of old n ≡ Some i → number_of (join_all old new) n ≡ Some i
  -- each new name has a number
  pub gives : (k : ℕ) (n : Name) → slice_get new k ≡ Some n → (i : ℕ) × ((number_of (join_all old new) n ≡ Some i) × (i < length (join_all old new)))
  -- names that were pairwise different stay so
  pub apart : T (all_different old) → T (all_different (join_all old new))

-- so it is for all names
abbrev pub JoiningIsLawful : Type 0
JoiningIsLawful = (old new : List Name) → JoiningKeeps old new

-- among names that differ, a name has the number i exactly if it stands at place i
abbrev pub NumbersArePlaces : Type 0
NumbersArePlaces = (names : List Name) → T (all_different names) → (i : ℕ) (n : Name) → (slice_get names i ≡ Some n → number_of names n ≡ Some i) × (number_of names n ≡ Some i → slice_get names i ≡ Some n)
