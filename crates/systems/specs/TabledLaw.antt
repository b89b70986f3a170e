-- A table keeps the law, whatever it is handed. Assumes nothing.
use Rattle.std.specs.Prelude.{◌≡◌, ℕ, ◌^◌, ◌<◌, ◌≤◌, Bool, true, false, ◌&&◌, ◌⊎◌, List, [], ◌∷◌, map, take, filter, ◌==◌, nat_lt, slice_index, refl}
use Rattle.std.proofs.Common.{ap, ◌∙◌, inl, inr, arith, length-take}
use Rattle.std.proofs.lemmas.List.{length-map}
use Rattle.std.specs.List.{AllByRecursion}
use Rattle.std.proofs.lemmas.Nat.{mod_below, pow_pos}
use Rattle.std.proofs.ByRecursion.{All-map, All-take, All-weaker, kept_by_passes}
use Rattle.std.proofs.lemmas.Bool.{cond_both, cond-false, and_parts, and_left, and_right, le-ltb, ltb-true, ne_eqb, cases_lt}
use Rattle.systems.specs.Limits.{max_states, max_moves, max_events, max_propositions}
use Rattle.systems.specs.Meaning.{Move, Lawful, LawfulTransitions}
use Rattle.systems.specs.Tabled.{counts, counting, move_of, tabled_transitions, tabled}
use Rattle.systems.specs.declared.transition.Transition.{Transition}

-- where a test fails of everything, nothing is kept
pub kept_none : {X : Type 0} (p : X → Bool) → ((x : X) → p x ≡ false) → (xs : List X) → filter p xs ≡ []
kept_none p h [] = refl
kept_none p h (x ∷ xs) = cond-false (p x) (x ∷ filter p xs) (filter p xs) (h x) ∙ kept_none p h xs

-- what holds of each record that counts holds of each move of a table
all_moves : (P : Move → Type 0) (states q : ℕ) (records : List Transition) → ((r : Transition) → counts states q r ≡ true → P (move_of r)) → AllByRecursion P (map move_of (take max_moves (counting states q records)))
all_moves P states q records each =
    let kept = counting states q records in
    All-map P move_of (take max_moves kept)
    (All-take (λ r. P (move_of r)) max_moves kept
    (All-weaker (λ r. counts states q r ≡ true) (λ r. P (move_of r)) each kept (kept_by_passes (counts states q) records)))

-- no record counts at what is not a state
apart : (states q source : ℕ) → states ≤ q → (source < states) ⊎ (states ≤ source) → (source == q && nat_lt source states) ≡ false
apart states q source h (inl lt) = and_left (source == q) (nat_lt source states) (ne_eqb source q (λ e. omega arith))
apart states q source h (inr le) = and_right (source == q) (nat_lt source states) (le-ltb source states le)

past : (states q : ℕ) → states ≤ q → (r : Transition) → counts states q r ≡ false
past states q h r = and_left _ (nat_lt r.target states) (apart states q r.source h (cases_lt r.source states))

module _ (states initial count : ℕ) (records : List Transition) (sets : List ℕ) (starts : initial < states) (few : states ≤ max_states) where
  goes : LawfulTransitions (tabled_transitions states initial count records)
  goes = record {
    some = omega arith;
    few = few;
    starts = starts;
    lands = λ q. all_moves (λ m. m.target < states) states q (take count records) (λ r e. ltb-true r.target states (and_parts _ _ e).1);
    fits = λ q. all_moves (λ m. m.events < 2 ^ max_events) states q (take count records) (λ r _. mod_below r.events (2 ^ max_events) (pow_pos max_events));
    short = λ q. simp (length-map, length-take) (omega arith);
    ends = λ q h. ap (λ rs. map move_of (take max_moves rs)) (kept_none (counts states q) (past states q h) (take count records));
  }

  -- a table whose initial state is one of its states, of which there are at most 256, keeps the law
  pub tabled_lawful : Lawful (tabled states initial count records sets)
  tabled_lawful = record {
    goes = goes;
    marks = λ q. cond_both (nat_lt q states) _ 0 (λ s. s < 2 ^ max_propositions) (λ _. mod_below (slice_index sets q) (2 ^ max_propositions) (pow_pos max_propositions)) (λ _. omega arith);
    unmarked = λ q h. cond-false (nat_lt q states) _ 0 (le-ltb q states h);
  }
