-- What the reader of the transition file gives. Assumes nothing.
use Rattle.std.specs.Prelude.{◌≡◌, ℕ, List, Ok, Err, Result}
use Rattle.files.specs.declared.fault.Fault.{Fault}
use Rattle.text.specs.Held.{held}
use Rattle.text.specs.declared.names.Name.{Name}
use Rattle.transition_file.specs.TransitionPart.{transition_part, events_then}
use Rattle.transition_file.specs.declared.reading.TransitionsRead.{TransitionsRead}

-- the header and the names of events, or the first question that gets a no
abbrev pub ReadAs : List ℕ → List Name → Result TransitionsRead Fault → Type 0
ReadAs file known (Ok t) = (transition_part file known ≡ Ok t.header) × (held t.events ≡ events_then file known)
ReadAs file known (Err fault) = transition_part file known ≡ Err fault
