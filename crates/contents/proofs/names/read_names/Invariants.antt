use Rattle.std.specs.Option.{option_map}
use Rattle.layouts.specs.Layouts.{item_at}
use Rattle.text.specs.Held.{held}
use Rattle.contents.specs.NamesLine.{accepted, names_of}
use Rattle.contents.proofs.Folds.{Sofar, left}
use Rattle.contents.proofs.names.read_names.Given as goal

abbrev pub invariant-loop-next : goal.invariant-loop-next
invariant-loop-next l = Sofar accepted (item_at l.line) l.line (names_of l.line) (option_map held l.found) l.next

abbrev pub decreases-loop-next : goal.decreases-loop-next
decreases-loop-next l = left l.line l.next
