use Rattle.std.proofs.Common.{map}
use Rattle.files.specs.Lines.{rows_left}
use Rattle.text.specs.Held.{held}
use Rattle.transition_file.specs.TransitionPart.{arrows_of}
use Rattle.transition_file.specs.Records.{record_in, line_record}
use Rattle.transition_file.proofs.Written.{Sofar}
use Rattle.transition_file.proofs.writing.write_transitions.Given as goal

abbrev pub invariant-loop-record : goal.invariant-loop-record
invariant-loop-record l =
    Sofar (map (record_in (held l.known)) (arrows_of l.file)) l.initial.records l.records l.record-index
    (map (λ r. line_record (held l.known) r.text) (rows_left l.lines))
