use Rattle.certificates.proofs.Merge.{rounds_merge}
use Rattle.certificates.proofs.theorems.rounds_merge.Goals as goal

pub returns : goal.returns
returns c = rounds_merge
