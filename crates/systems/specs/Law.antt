-- What the law says of each question, of moves that are missing too. Assumes nothing.
use Rattle.std.specs.Prelude.{◌≡◌, ℕ, zero, suc, ◌%◌, ◌^◌, ◌<◌, ◌≤◌, false, List, [], ◌∷◌, length, nat_eq, nat_lt, slice_index_or}
use Rattle.std.proofs.Common.{ap, ◌∙◌, arith}
use Rattle.std.proofs.Math.Nat.{zero-div}
use Rattle.std.specs.List.{AllByRecursion}
use Rattle.std.proofs.lemmas.Bool.{and_left, and_right, le-ltb}
use Rattle.systems.specs.Limits.{max_moves, max_events, max_propositions}
use Rattle.systems.specs.Meaning.{Transitions, Meaning, LawfulTransitions, Lawful, member, move_count, missing, events_at, target_at, holds}

-- what holds of each element and of the default holds of what is read anywhere
pub all_read : {X : Type 0} (P : X → Type 0) (xs : List X) (i : ℕ) (d : X) → AllByRecursion P xs → P d → P (slice_index_or xs i d)
all_read P [] i d a h = h
all_read P (x ∷ xs) zero d a h = a.0
all_read P (x ∷ xs) (suc i) d a h = all_read P xs i d a.1 h

-- the empty set has no member
pub member_none : (k : ℕ) → member 0 k ≡ false
member_none k = ap (λ n. nat_eq (n % 2) 1) (zero-div (2 ^ k))

module _ (t : Transitions) (law : LawfulTransitions t) where
  -- a move leads to a state of the system, also where it is missing
  pub target_below : (q i : ℕ) → target_at t q i < t.states
  target_below q i = all_read (λ m. m.target < t.states) (t.moves q) i (missing t) (law.lands q) law.starts

  -- the events of a move are below 64, also where it is missing
  pub events_below : (q i : ℕ) → events_at t q i < 2 ^ max_events
  events_below q i = all_read (λ m. m.events < 2 ^ max_events) (t.moves q) i (missing t) (law.fits q) (omega arith)

  pub count_below : (q : ℕ) → move_count t q ≤ max_moves
  count_below = law.short

  -- no moves leave what is not a state
  pub count_past : (q : ℕ) → t.states ≤ q → move_count t q ≡ 0
  count_past q h = ap length (law.ends q h)

module _ (m : Meaning) (law : Lawful m) where
  -- nothing holds in what is not a state
  pub holds_past : (q p : ℕ) → m.transitions.states ≤ q → holds m q p ≡ false
  holds_past q p h = and_right (nat_lt p max_propositions) _ (ap (λ s. member s p) (law.unmarked q h) ∙ member_none p)

  -- nothing from 64 up holds
  pub holds_above : (q p : ℕ) → max_propositions ≤ p → holds m q p ≡ false
  holds_above q p h = and_left _ _ (le-ltb p max_propositions h)
