use Rattle.formulas.proofs.Facts.{lies_well}
use Rattle.formulas.proofs.formula.facts.formulas_lie_well.Goals as goal

pub returns : goal.returns
returns c = lies_well
