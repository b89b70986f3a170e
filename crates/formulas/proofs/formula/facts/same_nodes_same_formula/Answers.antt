use Rattle.formulas.proofs.Facts.{same_nodes}
use Rattle.formulas.proofs.formula.facts.same_nodes_same_formula.Goals as goal

pub returns : goal.returns
returns c = same_nodes
