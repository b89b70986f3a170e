use Rattle.std.proofs.Common.{length, sym, ap, rules}
use Rattle.files.specs.Lines.{row_of}
use Rattle.files.proofs.Tiling.{rows_at}
use Rattle.files.proofs.lines.LinesIterator.next.Goals as goal

pub returns-clause-steps : goal.returns-clause-steps
returns-clause-steps c = rows_at c.args.self.now.file.now c.args.self.now.at (row_of c.in_ok-line.line) c.in_ok-line.line.after (sym c.in_ok-line.ensures)

pub returns-clause-goes : goal.returns-clause-goes
returns-clause-goes c =
    let e = ap length (rows_at c.args.self.now.file.now c.args.self.now.at (row_of c.in_ok-line.line) c.in_ok-line.line.after (sym c.in_ok-line.ensures)) in
    search rules
