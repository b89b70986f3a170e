use Rattle.certificates.proofs.Whole.{whole_relative}
use Rattle.certificates.proofs.theorems.whole_support_is_relative.Goals as goal

pub returns : goal.returns
returns c = whole_relative
