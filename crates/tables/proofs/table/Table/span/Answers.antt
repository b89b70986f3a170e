use Rattle.std.proofs.Common.{◌≡◌, get_or, rules}
use Rattle.tables.specs.Spans.{nowhere}
use Rattle.tables.proofs.Finding.{count_shown}
use Rattle.tables.proofs.table.Table.span.Goals as goal

pub returns-clause-count : goal.returns-clause-count
returns-clause-count c =
    let t = c.args.self.now in
    let kept : c.unwrap_or_default.result ≡ get_or t.spans c.args.q nowhere = search rules in
    count_shown t c.args.q c.unwrap_or_default.result kept
