use Rattle.certificates.proofs.Evaluated.{fixed_supported}
use Rattle.certificates.proofs.theorems.fixed_points_are_supported.Goals as goal

pub returns : goal.returns
returns c = fixed_supported
