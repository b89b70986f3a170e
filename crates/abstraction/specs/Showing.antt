-- What a shown move has, in the words of the rules. Assumes nothing.
use Rattle.std.specs.Prelude.{◌≡◌, ℕ, ◌<◌, true, List, length, slice_index_or}
use Rattle.systems.specs.Meaning.{Transitions, move_count, events_at, target_at, member}
use Rattle.abstraction.specs.Rules.{blank}
use Rattle.abstraction.specs.Abstracted.{abstracted_transitions}
use Rattle.abstraction.specs.declared.rule.Rule.{Rule}

-- some rule shows e, whose seen event is among the events
pub record Shows (rules : List Rule) (events e : ℕ) : Type 0 where
  pub row : ℕ
  pub within : row < length rules
  pub seen : member events (slice_index_or rules row blank).seen ≡ true
  pub shown : (slice_index_or rules row blank).shown ≡ e

-- a system and what the rules show of it: as many moves, to the same states,
-- and an event is in a shown move exactly if some rule shows it whose seen event the move had
pub record Shown (rules : List Rule) (t : Transitions) (q : ℕ) : Type 0 where
  pub count : move_count (abstracted_transitions rules t) q ≡ move_count t q
  pub target : (i : ℕ) → target_at (abstracted_transitions rules t) q i ≡ target_at t q i
  pub only : (i e : ℕ) → member (events_at (abstracted_transitions rules t) q i) e ≡ true → Shows rules (events_at t q i) e
  pub each : (i e : ℕ) → Shows rules (events_at t q i) e → member (events_at (abstracted_transitions rules t) q i) e ≡ true

-- rules show what they say, and nothing else
abbrev pub ShowsExactly : Type 0
ShowsExactly = (rules : List Rule) (t : Transitions) (q : ℕ) → Shown rules t q
