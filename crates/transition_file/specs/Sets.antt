-- Sets of names as numbers, by the numbers that a vocabulary gives the names. Assumes nothing.
use Rattle.std.specs.Prelude.{ℕ, ◌^◌, List, Some, None, fold, Option, bit_or}
use Rattle.text.specs.Numbering.{number_of}
use Rattle.text.specs.declared.names.Name.{Name}

-- the set of one number, or of none
abbrev pub single : Option ℕ → ℕ
single None = 0
single (Some i) = 2 ^ i

-- the set of the number that the vocabulary gives the name
abbrev pub bit_in : List Name → Name → ℕ
bit_in known n = single (number_of known n)

-- one name more in a set
abbrev pub add_name : List Name → ℕ → Name → ℕ
add_name known set n = bit_or set (bit_in known n)

-- the set of the names' numbers
abbrev pub set_in : List Name → List Name → ℕ
set_in known ns = fold (add_name known) 0 ns
