use Rattle.std.proofs.Common.{ap, ◌∙◌, slice_index_or, rules}
use Rattle.classes.proofs.Table.{ruled}
use Rattle.classes.proofs.entry.Goals as goal

pub returns : goal.returns
returns c = ap (λ i. slice_index_or c.args.table.now i _) c.from.ensures ∙ ruled c.args.table.now _ c.requires c.args.b (search rules)
