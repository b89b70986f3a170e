-- The largest of the first values of a function bounds them, is one of them, and is within any bound. Assumes nothing.
use Rattle.std.proofs.Common.{◌≡◌, ℕ, zero, suc, ◌<◌, ◌≤◌, max, [], ◌∷◌, ◌++◌, map, fold, refl, sym, ap, ◌∙◌, ⊎_elim, add-one, arith}
use Rattle.std.specs.Option.{unwrap_or}
use Rattle.std.specs.Ordering.{nat_cmp, max_by_ordering}
use Rattle.std.specs.List.{range_with_len, reduce}
use Rattle.std.proofs.lemmas.List.Folds.{max_of_map, fold-map}
use Rattle.std.proofs.lemmas.List.FromFn.{map-range_with_len_more}
use Rattle.std.proofs.lemmas.List.Sums.{fold_push}
use Rattle.std.proofs.lemmas.Bool.{cases_lt}
use Rattle.systems.specs.Limits.{max_moves}
use Rattle.systems.specs.Meaning.{Transitions, LawfulTransitions, move_count}
use Rattle.systems.specs.Law.{count_past}
use Rattle.systems.specs.Largest.{largest_below, largest, Largest}

pub largest_above : (f : ℕ → ℕ) (n q : ℕ) → q < n → f q ≤ largest_below f n
largest_above f zero q h = absurd (omega arith)
largest_above f (suc n) q h = ⊎_elim (λ lt. omega (arith, largest_above f n q lt)) (λ le. let e : q ≡ n = omega arith in omega (arith, ap f e)) (cases_lt q n)

largest_met : (f : ℕ → ℕ) (n : ℕ) → 0 < n → (q : ℕ) × (q < n) × (f q ≡ largest_below f n)
largest_met f zero h = absurd (omega arith)
largest_met f (suc zero) h = (0, omega arith, omega arith)
largest_met f (suc (suc n)) h = ⊎_elim
    (λ lt. (suc n, omega arith, omega arith))
    (λ le. let m = largest_met f (suc n) (omega arith) in (m.0, omega (arith, m.1), m.2 ∙ omega arith))
    (cases_lt (largest_below f (suc n)) (f (suc n)))

largest_within : (f : ℕ → ℕ) (k : ℕ) → ((q : ℕ) → f q ≤ k) → (n : ℕ) → largest_below f n ≤ k
largest_within f k h zero = omega arith
largest_within f k h (suc n) = omega (arith, largest_within f k h n, h n)

module _ (t : Transitions) (law : LawfulTransitions t) where
  -- no state of a lawful system has more than 1,024 moves
  pub largest_few : largest t ≤ max_moves
  largest_few = largest_within (move_count t) max_moves law.short t.states

  pub largest_is : Largest t (largest t)
  largest_is = record {
    bounds = λ q. ⊎_elim (λ lt. largest_above (move_count t) t.states q lt) (λ le. omega (arith, count_past t law q le)) (cases_lt q t.states);
    met = largest_met (move_count t) t.states (omega (arith, law.some));
  }

-- the largest of the first n values, as a fold over the numbers below n
largest_folded : (f : ℕ → ℕ) (n : ℕ) → fold max 0 (map f (range_with_len 0 n)) ≡ largest_below f n
largest_folded f zero = refl
largest_folded f (suc n) =
    let more : map f (range_with_len 0 (suc n)) ≡ map f (range_with_len 0 n) ++ f n ∷ [] = ap (λ k. map f (range_with_len 0 k)) (sym (add-one n)) ∙ map-range_with_len_more f 0 n n (omega arith) in
    ap (fold max 0) more ∙ fold_push max 0 (map f (range_with_len 0 n)) (f n) ∙ ap (λ m. max m (f n)) (largest_folded f n)

-- and what `max` gives of them
pub largest_reduced : (f : ℕ → ℕ) (n : ℕ) → unwrap_or (reduce (λ p z. max_by_ordering (nat_cmp p z) p z) (map f (range_with_len 0 n))) 0 ≡ largest_below f n
largest_reduced f n = max_of_map f (range_with_len 0 n) ∙ sym (fold-map max f 0 (range_with_len 0 n)) ∙ largest_folded f n
