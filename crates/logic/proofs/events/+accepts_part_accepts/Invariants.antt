use Rattle.std.proofs.Common.{◌+◌, ◌*◌}
use Rattle.logic.proofs.events.+accepts_part_accepts.Given as goal

abbrev pub decreases-accepts : goal.decreases-accepts
decreases-accepts l = 2 * l.entry + 1

abbrev pub decreases-part_accepts : goal.decreases-part_accepts
decreases-part_accepts l = 2 * l.entry
