use Rattle.std.proofs.Common.{sym, ◌∙◌}
use Rattle.text.proofs.Tables.{not_some, push_whole}
use Rattle.text.proofs.numbering.Names.join.Goals as goal

pub invariant_of-self : goal.invariant_of-self
invariant_of-self c =
    let new = sym c.number_of.ensures.is ∙ not_some c.number_of.result c.if-is_none.ensures in
    let whole = push_whole c.args.self.now c.args.name.now c.push.result c.push.new.self new c.push.ensures.fits c.push.ensures.ok c.push.ensures.err in
    record { within = whole.0; apart = whole.1 }
