use Rattle.certificates.proofs.Evaluated.{direct_supported}
use Rattle.certificates.proofs.theorems.direct_kinds_are_supported.Goals as goal

pub returns : goal.returns
returns c = direct_supported
