-- What a system means, what can be asked of it, and the law that every system keeps. Assumes nothing.
use Rattle.std.specs.Prelude.{◌≡◌, ℕ, ◌/◌, ◌%◌, ◌^◌, ◌<◌, ◌≤◌, Bool, ◌&&◌, List, [], length, ◌==◌, nat_lt, slice_index_or}
use Rattle.std.specs.List.{AllByRecursion}
use Rattle.systems.specs.Limits.{max_states, max_moves, max_events, max_propositions}

-- a move: the set of its events as a number, whose bit e is the event e, and the state that it leads to
pub record Move : Type 0 where
  pub events : ℕ
  pub target : ℕ

-- where a system can go: states are numbered from 0, and each has its moves, in order
pub record Transitions : Type 0 where
  pub states : ℕ
  pub initial : ℕ
  pub moves : ℕ → List Move

-- a system: where it can go, and the set of propositions that hold in each state, as a number
pub record Meaning : Type 0 where
  pub transitions : Transitions
  pub propositions : ℕ → ℕ

-- whether the number k is in the set s
abbrev pub member : ℕ → ℕ → Bool
member s k = s / 2 ^ k % 2 == 1

-- the number of moves that leave the state q
abbrev pub move_count : Transitions → ℕ → ℕ
move_count t q = length (t.moves q)

-- what is read where there is no move: no events, to the initial state
abbrev pub missing : Transitions → Move
missing t = record { events = 0; target = t.initial }

-- the move i of the state q, counted from 0
abbrev pub move_at : Transitions → ℕ → ℕ → Move
move_at t q i = slice_index_or (t.moves q) i (missing t)

-- the events of the move i of the state q
abbrev pub events_at : Transitions → ℕ → ℕ → ℕ
events_at t q i = (move_at t q i).events

-- the state that the move i of the state q leads to
abbrev pub target_at : Transitions → ℕ → ℕ → ℕ
target_at t q i = (move_at t q i).target

-- whether the proposition p holds in the state q
abbrev pub holds : Meaning → ℕ → ℕ → Bool
holds m q p = nat_lt p max_propositions && member (m.propositions q) p

-- the law of where a system can go
pub record LawfulTransitions (t : Transitions) : Type 0 where
  pub some : 1 ≤ t.states
  pub few : t.states ≤ max_states
  pub starts : t.initial < t.states
  pub lands : (q : ℕ) → AllByRecursion (λ m. m.target < t.states) (t.moves q)
  pub fits : (q : ℕ) → AllByRecursion (λ m. m.events < 2 ^ max_events) (t.moves q)
  pub short : (q : ℕ) → length (t.moves q) ≤ max_moves
  pub ends : (q : ℕ) → t.states ≤ q → t.moves q ≡ []

-- the law of a system
pub record Lawful (m : Meaning) : Type 0 where
  pub goes : LawfulTransitions m.transitions
  pub marks : (q : ℕ) → m.propositions q < 2 ^ max_propositions
  pub unmarked : (q : ℕ) → m.transitions.states ≤ q → m.propositions q ≡ 0
