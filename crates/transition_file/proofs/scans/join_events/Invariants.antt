use Rattle.std.proofs.Common.{◌≡◌}
use Rattle.files.specs.Lines.{rows_left}
use Rattle.text.specs.Held.{held}
use Rattle.transition_file.specs.TransitionPart.{join_if_few, names_in_rows, body}
use Rattle.transition_file.proofs.scans.join_events.Given as goal

abbrev pub invariant-loop-line : goal.invariant-loop-line
invariant-loop-line l = join_if_few (held l.fn.known) (names_in_rows (body l.file)) ≡ join_if_few (held l.names) (names_in_rows (rows_left l.line-iterator))
