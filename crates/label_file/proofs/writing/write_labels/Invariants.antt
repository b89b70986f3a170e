use Rattle.files.specs.Lines.{rows_left}
use Rattle.transition_file.specs.TransitionPart.{body}
use Rattle.label_file.proofs.Sets.{Marking}
use Rattle.label_file.proofs.writing.write_labels.Given as goal

abbrev pub invariant-loop-line : goal.invariant-loop-line
invariant-loop-line l = Marking l.masks l.states (body l.file) l.initial.sets l.sets (rows_left l.line-iterator)
