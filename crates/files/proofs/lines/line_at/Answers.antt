use Rattle.std.proofs.Common.{◌≤◌, length, arith, rules}
use Rattle.files.proofs.Tiling.{end_inside}
use Rattle.files.proofs.lines.line_at.Goals as goal

pub slice_bounds-result-end : goal.slice_bounds-result-end
slice_bounds-result-end c =
    let s = c.args.file.now in
    let h : c.byte_from-end.result ≤ length s = end_inside _ s c.args.at _ c.byte_from-end.ensures (omega arith) in
    search rules
