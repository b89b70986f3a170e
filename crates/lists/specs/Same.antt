-- Lists with the same items are one value. Assumes nothing.
use Rattle.std.specs.Prelude.{◌≡◌, ℕ}
use Rattle.lists.specs.declared.Blank.{Ghosts}
use Rattle.lists.specs.declared.FixedList.{FixedList}
use Rattle.lists.specs.Items.{items}

abbrev pub SameItemsSameList : (X : Type 0) (N : ℕ) (B : Ghosts X) → Type 0
SameItemsSameList X N B = (l m : FixedList X N B) → items l ≡ items m → l ≡ m
