use Rattle.text.proofs.Joins.{joining}
use Rattle.text.proofs.numbering.joining_is_lawful.Goals as goal

pub returns : goal.returns
returns c = joining
