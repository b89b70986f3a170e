use Rattle.std.proofs.Common.{rules, sym}
use Rattle.tables.proofs.Finding.{span_read, past_count}
use Rattle.tables.proofs.table.Table.record_at.Goals as goal

pub returns-then-i-span : goal.returns-then-i-span
returns-then-i-span c =
    let o = span_read c.args.self.now c.args.q c.span-span.result c.span-span.ensures.kept in
    sym (past_count _ _ _ c.args.q c.span-span.result o c.args.i (search rules))
