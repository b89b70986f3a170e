use Rattle.certificates.proofs.Evaluated.{variable_supported}
use Rattle.certificates.proofs.theorems.variables_are_supported.Goals as goal

pub returns : goal.returns
returns c = variable_supported
