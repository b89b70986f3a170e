use Rattle.certificates.proofs.Grow.{rounds_grow}
use Rattle.certificates.proofs.theorems.rounds_grow.Goals as goal

pub returns : goal.returns
returns c = rounds_grow
