-- What a table shows. Assumes nothing.
use Rattle.std.specs.Prelude.{ℕ, List, take}
use Rattle.systems.specs.Limits.{max_moves}
use Rattle.systems.specs.Meaning.{Transitions, Meaning}
use Rattle.systems.specs.Tabled.{counting, tabled_transitions, tabled}
use Rattle.systems.specs.declared.transition.Transition.{Transition}
use Rattle.tables.specs.declared.table.Table.{Table}

-- the records whose moves a table shows of the state q, in their order
abbrev pub shown_records : Table → (q : ℕ) → List Transition
shown_records t q = take max_moves (counting t.shape.states q (take t.shape.moves t.records.now))

-- where a table can go
abbrev pub transitions_of : Table → Transitions
transitions_of t = tabled_transitions t.shape.states t.shape.initial t.shape.moves t.records.now

-- what a table means
abbrev pub meaning_of : Table → Meaning
meaning_of t = tabled t.shape.states t.shape.initial t.shape.moves t.records.now t.sets.now
