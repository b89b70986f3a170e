use Rattle.std.proofs.Common.{◌≡◌, length}
use Rattle.files.specs.Lines.{rows_left}
use Rattle.transition_file.specs.TransitionPart.{body}
use Rattle.label_file.specs.LabelPart.{mislabelled}
use Rattle.label_file.proofs.scans.mislabelled_line.Given as goal

abbrev pub invariant-loop-line : goal.invariant-loop-line
invariant-loop-line l = mislabelled l.states (length l.masks) 0 (body l.file) ≡ mislabelled l.states (length l.masks) l.least (rows_left l.line-iterator)
