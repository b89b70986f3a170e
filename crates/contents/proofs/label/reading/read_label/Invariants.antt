use Rattle.std.proofs.Common.{◌≡◌, ◌≤◌, map, length, Some}
use Rattle.lists.specs.Items.{items}
use Rattle.contents.specs.Labels.{all_named, label_limit}
use Rattle.contents.proofs.label.reading.read_label.Given as goal

abbrev pub invariant-loop-piece : goal.invariant-loop-piece
invariant-loop-piece l =
    (goal.iterator-loop-piece).can_next l.piece-iterator
    × (goal.iterator-loop-piece).is_finite l.piece-iterator
    × (all_named (map (λ p. p.now) l.yielded) ≡ Some (items l.names))
    × (length (items l.names) ≤ label_limit)
