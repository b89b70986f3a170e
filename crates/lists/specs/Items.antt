-- The items of a list. Assumes nothing.
use Rattle.std.specs.Prelude.{ℕ, List, take}
use Rattle.lists.specs.declared.Blank.{Ghosts}
use Rattle.lists.specs.declared.FixedList.{FixedList}

module _ {X : Type 0} {N : ℕ} {B : Ghosts X} where
  -- the items, in order
  abbrev pub items : FixedList X N B → List X
  items l = take l.count l.places
