-- The limits of formulas.
use Rattle.std.specs.Prelude.{ℕ}

-- the most nodes of a formula
abbrev pub max_nodes : ℕ
max_nodes = 64

-- the most event formula entries of a formula
abbrev pub max_entries : ℕ
max_entries = 64

-- the most binders around a node
abbrev pub max_depth : ℕ
max_depth = 3
