use Rattle.certificates.proofs.Evaluated.{binder_supported}
use Rattle.certificates.proofs.theorems.binders_are_supported.Goals as goal

pub returns : goal.returns
returns c = binder_supported
