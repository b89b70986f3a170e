use Rattle.lists.proofs.Same.{same_items}
use Rattle.lists.proofs.facts.same_items_same_list.Goals as goal

pub returns : goal.returns
returns g c = same_items g.row.T.coded
