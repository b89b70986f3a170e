-- What a table means, over the records and the proposition sets that it is handed. Assumes nothing.
use Rattle.std.specs.Prelude.{ℕ, ◌%◌, ◌^◌, Bool, cond, ◌&&◌, List, map, take, filter, ◌==◌, nat_lt, slice_index}
use Rattle.systems.specs.Limits.{max_moves, max_events, max_propositions}
use Rattle.systems.specs.Meaning.{Move, Transitions, Meaning}
use Rattle.systems.specs.declared.transition.Transition.{Transition}

-- a record counts at the state q if it leaves q and joins two states of the table
abbrev pub counts : (states q : ℕ) → Transition → Bool
counts states q r = (r.source == q && nat_lt r.source states) && nat_lt r.target states

-- a record as a move
abbrev pub move_of : Transition → Move
move_of r = record { events = r.events % 2 ^ max_events; target = r.target }

-- the records that count at the state q, in their order
abbrev pub counting : (states q : ℕ) → List Transition → List Transition
counting states q records = filter (counts states q) records

-- where a table can go: it reads the first `count` records, and a state has its first 1,024 moves
abbrev pub tabled_transitions : (states initial count : ℕ) → List Transition → Transitions
tabled_transitions states initial count records = record {
  states = states;
  initial = initial;
  moves = λ q. map move_of (take max_moves (counting states q (take count records)));
}

-- the propositions of the state q: its set in the list, and none past the list's end or the last state
abbrev pub tabled_propositions : (states : ℕ) → List ℕ → ℕ → ℕ
tabled_propositions states sets q = cond (nat_lt q states) (slice_index sets q % 2 ^ max_propositions) 0

-- a table
abbrev pub tabled : (states initial count : ℕ) → List Transition → List ℕ → Meaning
tabled states initial count records sets = record {
  transitions = tabled_transitions states initial count records;
  propositions = tabled_propositions states sets;
}
