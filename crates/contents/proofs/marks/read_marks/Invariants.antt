use Rattle.std.proofs.Common.{suc, length, Some}
use Rattle.layouts.specs.Layouts.{listed_at}
use Rattle.contents.specs.MarksLine.{add_mark}
use Rattle.contents.proofs.Folds.{folding, Sofar, left}
use Rattle.contents.proofs.marks.read_marks.Given as goal

abbrev pub invariant-loop-next : goal.invariant-loop-next
invariant-loop-next l =
    Sofar (add_mark l.masks) (listed_at l.line) l.line
    (folding (add_mark l.masks) (listed_at l.line) (Some (record { least = 0; set = 0 })) (suc (length l.line)) l.state.after) l.listing l.next

abbrev pub decreases-loop-next : goal.decreases-loop-next
decreases-loop-next l = left l.line l.next
