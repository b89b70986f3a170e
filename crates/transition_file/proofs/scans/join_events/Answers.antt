use Rattle.std.proofs.Common.{sym, ◌∙◌}
use Rattle.files.specs.Lines.{row_of, rows_left}
use Rattle.text.specs.Held.{held}
use Rattle.transition_file.proofs.Joining.{line_full, line_joined}
use Rattle.transition_file.proofs.scans.join_events.Goals as goal

pub returns-in_err-names : goal.returns-in_err-names
returns-in_err-names c =
    rw c.from_residual.ensures (sym (c.loop-line.invariant ∙ line_full (held c.loop-line.names) (rows_left c.loop-line.line-iterator) (row_of c.in-Some.line) _ c.in-Some.ensures.steps c.in_err-names.ensures))

pub loop-line-preserved : goal.loop-line-preserved
loop-line-preserved c =
    c.loop-line.invariant ∙ line_joined (held c.loop-line.names) (rows_left c.loop-line.line-iterator) (row_of c.in-Some.line) _ c.in-Some.ensures.steps _ c.in_ok-names.ensures
