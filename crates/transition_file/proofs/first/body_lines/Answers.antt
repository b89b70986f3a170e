use Rattle.std.proofs.Common.{ap, ◌∙◌}
use Rattle.files.proofs.Tiling.{rows_past}
use Rattle.transition_file.proofs.Scanning.{body_rows}
use Rattle.transition_file.proofs.first.body_lines.Goals as goal

pub returns : goal.returns
returns c = c.lines_from.ensures ∙ ap (rows_past c.args.file.now) c.body_start.ensures ∙ body_rows c.args.file.now
