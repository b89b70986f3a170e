use Rattle.std.proofs.lemmas.Nat.{one_shl}
use Rattle.systems.specs.Limits.{max_events}
use Rattle.abstraction.proofs.rule.only.Goals as goal

pub returns : goal.returns
returns c = one_shl c.args.event max_events c.requires
