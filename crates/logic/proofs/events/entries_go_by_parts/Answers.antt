use Rattle.logic.proofs.Turns.{by_parts_lem}
use Rattle.logic.proofs.events.entries_go_by_parts.Goals as goal

pub returns : goal.returns
returns c = by_parts_lem
