use Rattle.trees.proofs.TreeReading.{reads_back}
use Rattle.trees.proofs.formulas_read_back.Goals as goal

pub returns : goal.returns
returns c = reads_back
