use Rattle.logic.proofs.Standing.{dual}
use Rattle.logic.proofs.derived.greatest_is_dual_to_least.Goals as goal

pub returns : goal.returns
returns c = dual
