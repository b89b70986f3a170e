-- How large a system may be. Assumes nothing.
use Rattle.std.specs.Prelude.{ℕ}

-- the most states a system has
abbrev pub max_states : ℕ
max_states = 256

-- the most moves that leave one state
abbrev pub max_moves : ℕ
max_moves = 1024

-- events are numbered below this
abbrev pub max_events : ℕ
max_events = 64

-- propositions are numbered below this
abbrev pub max_propositions : ℕ
max_propositions = 64
