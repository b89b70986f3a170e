use Rattle.abstraction.proofs.Shown.{shows_exactly}
use Rattle.abstraction.proofs.showing.rules_show_exactly.Goals as goal

pub returns : goal.returns
returns c = shows_exactly
