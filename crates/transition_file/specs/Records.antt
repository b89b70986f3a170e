-- The records that the transition file fills. Assumes nothing.
use Rattle.std.specs.Prelude.{ℕ, List, [], ◌∷◌}
use Rattle.layouts.specs.Layouts.{Arrow}
use Rattle.systems.specs.declared.transition.Transition.{Transition}
use Rattle.text.specs.declared.names.Name.{Name}
use Rattle.transition_file.specs.Sets.{set_in}
use Rattle.transition_file.specs.TransitionPart.{names_in, arrow_in}

-- the events of a transition, by the numbers of the names in its label
abbrev pub events_of : List Name → Arrow → ℕ
events_of events a = set_in events (names_in a.label)

-- a transition as the record of a table
abbrev pub record_in : List Name → Arrow → Transition
record_in events a = record { source = a.source; events = events_of events a; target = a.target }

-- the record of the transition that a line tells of
abbrev pub line_record : List Name → List ℕ → Transition
line_record events line = record_in events (arrow_in line)

-- values written over the first places, as many as there are places
abbrev pub written : {X : Type 0} → List X → List X → List X
written values [] = []
written [] (p ∷ places) = p ∷ places
written (v ∷ values) (p ∷ places) = v ∷ written values places
