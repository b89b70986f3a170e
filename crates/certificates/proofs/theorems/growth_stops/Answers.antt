use Rattle.certificates.proofs.Bounds.{growth_stops}
use Rattle.certificates.proofs.theorems.growth_stops.Goals as goal

pub returns : goal.returns
returns c = growth_stops
