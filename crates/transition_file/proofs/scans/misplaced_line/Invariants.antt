use Rattle.std.proofs.Common.{◌≡◌, ◌-◌, length}
use Rattle.files.specs.Lines.{rows_left}
use Rattle.transition_file.specs.TransitionPart.{misplaced, body}
use Rattle.transition_file.proofs.scans.misplaced_line.Given as goal

abbrev pub invariant-loop-turn : goal.invariant-loop-turn
invariant-loop-turn l = misplaced l.count (length l.file) (body l.file) ≡ misplaced (l.count - l._turn) (length l.file) (rows_left l.lines)
