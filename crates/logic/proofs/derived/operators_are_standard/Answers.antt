use Rattle.logic.proofs.Standing.{standing}
use Rattle.logic.proofs.derived.operators_are_standard.Goals as goal

pub returns : goal.returns
returns c = standing
