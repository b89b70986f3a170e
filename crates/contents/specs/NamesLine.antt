-- The first line of the label file: which names it lists. Assumes nothing.
use Rattle.std.specs.Prelude.{ℕ, Bool, false, cond, ◌&&◌, List, [], ◌∷◌, ◌++◌, length, is_some, Some, None, Ok, Err, codes, fold, Option, Result, ◌==◌, nat_lt}
use Rattle.std.specs.Option.{option_map}
use Rattle.std.specs.List.{slice_get}
use Rattle.layouts.specs.declared.fault.LineFault.{LineFault}
use Rattle.layouts.specs.declared.labels.NameItem.{NameItem}
use Rattle.layouts.specs.Layouts.{Item, items_of}
use Rattle.text.specs.Held.{held}
use Rattle.text.specs.Names.{named, same_name}
use Rattle.text.specs.Numbering.{names_limit, number_of}
use Rattle.text.specs.declared.names.Name.{Name}
use Rattle.text.specs.declared.numbering.Names.{Names}

-- a result with another value
abbrev pub map_ok : {X Y E : Type 0} → (X → Y) → Result X E → Result Y E
map_ok f (Ok x) = Ok (f x)
map_ok f (Err e) = Err e

-- a name that is lawful and not there yet joins at the end
abbrev pub new_name : List Name → Option Name → Option (List Name)
new_name known None = None
new_name known (Some n) = cond (is_some (number_of known n)) None (Some (known ++ (n ∷ [])))

-- one entry more: its number is the next one, below 64, and its text is a lawful name that is not there yet
abbrev pub accepted : Option (List Name) → Item → Option (List Name)
accepted None it = None
accepted (Some known) it = cond (it.number == length known && nat_lt (length known) names_limit) (new_name known (named it.text)) None

-- the names that the line lists, where each entry is lawful; or where the line leaves its layout
abbrev pub names_of : List ℕ → Result (Option (List Name)) LineFault
names_of s = map_ok (fold accepted (Some [])) (items_of s)

-- the name with the number is the word
abbrev pub one_name : Option Name → Option Name → Bool
one_name None w = false
one_name (Some n) None = false
one_name (Some n) (Some w) = same_name n w

abbrev pub is_called : List Name → ℕ → List ℕ → Bool
is_called names k word = one_name (slice_get names k) (named word)

-- the names begin with init and deadlock, so there are at least two
abbrev pub well_begun : List Name → Bool
well_begun names = is_called names 0 (codes "init") && is_called names 1 (codes "deadlock")

-- what the readers' values say, with the bytes behind a borrowed part in its place
abbrev pub item_of : NameItem → Item
item_of n = record { number = n.number; text = n.text.now }

abbrev pub seen_names : Result (Option Names) LineFault → Result (Option (List Name)) LineFault
seen_names r = map_ok (option_map held) r
