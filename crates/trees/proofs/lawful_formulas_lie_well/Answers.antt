use Rattle.trees.proofs.Lying.{lawful_lie}
use Rattle.trees.proofs.lawful_formulas_lie_well.Goals as goal

pub returns : goal.returns
returns c = lawful_lie
