use Rattle.certificates.proofs.Right.{right}
use Rattle.certificates.proofs.theorems.supported_claims_are_right.Goals as goal

pub returns : goal.returns
returns c = right
