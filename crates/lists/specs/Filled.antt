-- Items in the first places of a row, and blanks in the places behind them.
use Rattle.std.specs.Prelude.{◌≡◌, ℕ, ◌-◌, ◌≤◌, List, ◌++◌, length, drop, replicate}

-- the first `count` of N places hold items, and the places behind them hold blanks
pub record Filled {X : Type 0} (N : ℕ) (blank : X) (count : ℕ) (places : List X) : Type 0 where
  pub within : count ≤ N
  pub whole : length places ≡ N
  pub behind : drop count places ≡ replicate (N - count) blank

-- N places with these items in the first of them, and blanks behind them
abbrev pub filled : {X : Type 0} → ℕ → X → List X → List X
filled N blank items = items ++ replicate (N - length items) blank
