use Rattle.std.proofs.Common.{ap, ◌∙◌, rules}
use Rattle.std.specs.List.{slice_get}
use Rattle.std.proofs.lemmas.Iterator.{YieldsList-from_slice}
use Rattle.std.proofs.lemmas.Iterator.Consumers.{YieldsList-at, YieldsList-from_filter, nth_from_yields_List}
use Rattle.systems.specs.Tabled.{counts}
use Rattle.tables.proofs.Finding.{span_read, span_lists}
use Rattle.tables.proofs.table.Table.find.Goals as goal

pub returns : goal.returns
returns c =
    let t = c.args.self.now in
    let q = c.args.q in
    let s = c.span-span.result in
    let o = span_read t q s c.span-span.ensures.kept in
    let n = nth_from_yields_List c.nth.result _ c.args.i c.nth.ensures.ran (YieldsList-from_filter _ (counts t.shape.states q) (YieldsList-at c.filter.ensures.source (YieldsList-from_slice _ c.iter.ensures.rest)) c.filter.ensures.closure (λ x b f k. search rules)) in
    c.copied.ensures ∙ n ∙ ap (λ rs. slice_get rs c.args.i) (span_lists _ _ t.records.now q s o)
