-- What the numbers of a file stand for, place by place. Assumes nothing.
use Rattle.std.proofs.Common.{◌≡◌, ℕ, zero, suc, ◌+◌, ◌-◌, ◌<◌, ◌≤◌, List, ◌++◌, map, length, get_or, slice_index, replicate, [], ◌∷◌, refl, sym, ap, ◌∙◌, ⊎_elim, arith, length-append}
use Rattle.std.specs.List.{slice_get}
use Rattle.std.specs.Option.{option_map_or}
use Rattle.text.specs.declared.names.Name.{Name}
use lib.ListN.{length-replicate}
use Rattle.std.proofs.lemmas.Bool.{cases_lt}
use Rattle.std.proofs.lemmas.List.{get_or_append_left, get_or-append-add, get_or-replicate, get_or_past}
use Rattle.std.proofs.lemmas.List.FromFn.{fill_by_all}

-- numbers, and 0 behind them
padded_at : (ms : List ℕ) (n k : ℕ) → k < n → get_or (ms ++ replicate (n - length ms) 0) k 0 ≡ get_or ms k 0
padded_at ms n k h = ⊎_elim
    (λ lt. get_or_append_left ms (replicate (n - length ms) 0) 0 k lt)
    (λ le.
    let j : k ≡ length ms + (k - length ms) = omega arith in
    ap (λ i. get_or (ms ++ replicate (n - length ms) 0) i 0) j ∙ get_or-append-add ms (replicate (n - length ms) 0) (k - length ms) 0
    ∙ get_or-replicate (n - length ms) (k - length ms) 0 0 (omega arith) ∙ sym (get_or_past ms k 0 le))
    (cases_lt k (length ms))

pub padded : (ms ys : List ℕ) (n : ℕ) → length ys ≡ n → length ms ≤ n → ((k : ℕ) → k < n → get_or ys k 0 ≡ get_or ms k 0) → ys ≡ ms ++ replicate (n - length ms) 0
padded ms ys n long few each =
    fill_by_all (λ k. get_or ms k 0) ys n 0 long each
    ∙ sym (fill_by_all (λ k. get_or ms k 0) (ms ++ replicate (n - length ms) 0) n 0 (omega (arith, length-append ms (replicate (n - length ms) 0), length-replicate {A = ℕ} (n - length ms) 0)) (padded_at ms n))

-- the value of a look-up, or 0
pub value_at : (f : Name → ℕ) (xs : List Name) (k : ℕ) → slice_index (map f xs) k ≡ option_map_or f (slice_get xs k) 0
value_at f [] k = refl
value_at f (x ∷ xs) zero = refl
value_at f (x ∷ xs) (suc k) = value_at f xs k
