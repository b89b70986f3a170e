use Rattle.certificates.proofs.Right.{agree}
use Rattle.certificates.proofs.theorems.supported_claims_agree.Goals as goal

pub returns : goal.returns
returns c = agree
