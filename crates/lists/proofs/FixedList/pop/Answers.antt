use Rattle.std.proofs.Common.{arith}
use Rattle.lists.specs.FilledLaw.{one_less}
use Rattle.lists.proofs.FixedList.pop.Goals as goal

pub invariant_of-self : goal.invariant_of-self
invariant_of-self g c =
    record { filled = one_less _ _ _ _ c.args.self.now.filled c.blank.result c.blank.ensures (omega (arith, c.if-self-eq0.false)) }
