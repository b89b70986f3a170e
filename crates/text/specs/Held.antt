-- The names that a table holds, and how they change.
use Rattle.std.specs.Prelude.{◌≡◌, Bool, true, false, List}
use Rattle.lists.specs.Items.{items}
use Rattle.text.specs.Numbering.{join_all}
use Rattle.text.specs.declared.names.Name.{Name}
use Rattle.text.specs.declared.numbering.Names.{Names}

-- the names in the order of their numbers
abbrev pub held : Names → List Name
held table = items table.list

-- if the answer is true all names joined, else nothing changed
abbrev pub JoinedAll : Bool → Names → Names → List Name → Type 0
JoinedAll true before after names = held after ≡ join_all (held before) names
JoinedAll false before after names = after ≡ before
