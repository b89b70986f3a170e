-- A system of two states and one move. Assumes nothing.
use Rattle.std.specs.Prelude.{ℕ, ◌%◌, ◌^◌, ◌<◌, ◌≤◌, cond, [], ◌∷◌, length, ◌==◌}
use Rattle.std.proofs.Common.{arith}
use Rattle.std.specs.List.{AllByRecursion}
use Rattle.std.proofs.lemmas.Nat.{mod_below, pow_pos}
use Rattle.std.proofs.lemmas.Bool.{cond_both, cond-false, ne_eqb}
use Rattle.systems.specs.Limits.{max_moves, max_events, max_propositions}
use Rattle.systems.specs.Meaning.{Meaning, Lawful}

-- one move leads from the state 0, which is the initial one, to the state 1, where the proposition 0 holds
abbrev pub hop : (events : ℕ) → Meaning
hop events = record {
  transitions = record { states = 2; initial = 0; moves = λ q. cond (q == 0) (record { events = events % 2 ^ max_events; target = 1 } ∷ []) [] };
  propositions = λ q. cond (q == 1) 1 0;
}

pub hop_lawful : (events : ℕ) → Lawful (hop events)
hop_lawful events = record {
  goes = record {
    some = omega arith;
    few = omega arith;
    starts = omega arith;
    lands = λ q. cond_both (q == 0) _ [] (AllByRecursion (λ m. m.target < 2)) (λ _. (omega arith, tt)) (λ _. tt);
    fits = λ q. cond_both (q == 0) _ [] (AllByRecursion (λ m. m.events < 2 ^ max_events)) (λ _. (mod_below events (2 ^ max_events) (pow_pos max_events), tt)) (λ _. tt);
    short = λ q. cond_both (q == 0) _ [] (λ ms. length ms ≤ max_moves) (λ _. omega arith) (λ _. omega arith);
    ends = λ q h. cond-false (q == 0) _ [] (ne_eqb q 0 (λ e. omega arith));
  };
  marks = λ q. cond_both (q == 1) 1 0 (λ n. n < 2 ^ max_propositions) (λ _. omega arith) (λ _. omega arith);
  unmarked = λ q h. cond-false (q == 1) 1 0 (ne_eqb q 1 (λ e. omega arith));
}
