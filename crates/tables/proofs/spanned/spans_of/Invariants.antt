use Rattle.std.proofs.Common.{◌≡◌, length}
use Rattle.systems.specs.Limits.{max_states}
use Rattle.tables.specs.Spans.{Spanned}
use Rattle.tables.proofs.spanned.spans_of.Given as goal

abbrev pub invariant-loop-k : goal.invariant-loop-k
invariant-loop-k l = record { whole : length l.spans ≡ max_states; spanned : Spanned l.states (length l.yielded) l.records l.spans }
