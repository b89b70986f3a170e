use Rattle.text.proofs.Picks.{finds_highest}
use Rattle.text.proofs.lookup.find_is_highest.Goals as goal

pub returns : goal.returns
returns g c = finds_highest _
