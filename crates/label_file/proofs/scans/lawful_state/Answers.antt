use Rattle.std.proofs.Common.{◌≡◌, Ok, rules}
use Rattle.files.specs.Lines.{row_of}
use Rattle.label_file.proofs.Marking.{some_state}
use Rattle.label_file.proofs.scans.lawful_state.Goals as goal

pub returns : goal.returns
returns c =
    let m = c.in_ok-marked.marked in
    let r : c.read_marks.result ≡ Ok m = search rules in
    let s = some_state c.args.masks.now c.args.states c.args.least (row_of c.args.line.now) c.read_marks.result c.read_marks.ensures c.if-not-line.false m r in
    search rules
