use Rattle.text.proofs.Joins.{places}
use Rattle.text.proofs.numbering.numbers_are_places.Goals as goal

pub returns : goal.returns
returns c = places
