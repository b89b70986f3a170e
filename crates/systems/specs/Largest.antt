-- The largest number of moves that leave a state. Assumes nothing.
use Rattle.std.specs.Prelude.{◌≡◌, ℕ, zero, suc, ◌<◌, ◌≤◌, max}
use Rattle.systems.specs.Meaning.{Transitions, move_count}

-- the largest of f 0, .., f (n - 1), and 0 of none
abbrev pub largest_below : (ℕ → ℕ) → ℕ → ℕ
largest_below f zero = 0
largest_below f (suc n) = max (largest_below f n) (f n)

-- the largest number of moves that leave a state
abbrev pub largest : Transitions → ℕ
largest t = largest_below (move_count t) t.states

-- no state has more moves than n, and some state has n
pub record Largest (t : Transitions) (n : ℕ) : Type 0 where
  pub bounds : (q : ℕ) → move_count t q ≤ n
  pub met : (q : ℕ) × (q < t.states) × (move_count t q ≡ n)
