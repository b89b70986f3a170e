use Rattle.trees.proofs.Telling.{nodes_tell}
use Rattle.trees.proofs.nodes_tell_formulas.Goals as goal

pub returns : goal.returns
returns c = nodes_tell
