use Rattle.certificates.proofs.Evaluated.{own_rounds_grow}
use Rattle.certificates.proofs.theorems.own_rounds_grow.Goals as goal

pub returns : goal.returns
returns c = own_rounds_grow
