-- Which moves are meant.
use Rattle.std.specs.Prelude.{ℕ, Option}

-- those whose events satisfy an event formula, by the number of its entry; where none is written, all moves
abbrev pub Guard : Type 0
Guard = Option ℕ
