use Rattle.std.proofs.Common.{arith}
use Rattle.lists.specs.FilledLaw.{one_more}
use Rattle.lists.proofs.FixedList.push.Goals as goal

pub invariant_of-self : goal.invariant_of-self
invariant_of-self g c =
    record { filled = one_more _ _ _ _ c.args.self.now.filled c.args.x (omega (arith, c.args.self.now.filled.within, c.if-self.false)) }
