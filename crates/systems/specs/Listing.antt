-- What a table lists and what it leaves out, record by record. Assumes nothing.
use Rattle.std.specs.Prelude.{◌≡◌, ℕ, suc, ◌<◌, ◌≤◌, true, ◌⊎◌, List, ◌∷◌, ◌++◌, length, take, slice_index_or}
use Rattle.systems.specs.Limits.{max_moves}
use Rattle.systems.specs.Meaning.{move_count, move_at}
use Rattle.systems.specs.Tabled.{counts, counting, move_of, tabled_transitions, tabled}
use Rattle.systems.specs.declared.transition.Transition.{Transition}

-- how many of the first n records count at the state q
abbrev pub counting_in : (states : ℕ) → List Transition → (q n : ℕ) → ℕ
counting_in states records q n = length (counting states q (take n records))

-- the record at k, one that the table reads, is the move i of the state q: it counts there, and i records that count stand before it
pub record Lists (states count : ℕ) (records : List Transition) (q i k : ℕ) (r : Transition) : Type 0 where
  pub early : k < count
  pub within : k < length records
  pub is : slice_index_or records k r ≡ r
  pub joins : counts states q r ≡ true
  pub rank : counting_in states records q k ≡ i

-- each move that a table shows is a record's
abbrev pub Recorded : Type 0
Recorded = (states initial count : ℕ) (records : List Transition) (q i : ℕ)
    → i < move_count (tabled_transitions states initial count records) q
    → (k : ℕ) × (r : Transition) × Lists states count records q i k r × (move_at (tabled_transitions states initial count records) q i ≡ move_of r)

-- each record that counts is shown as its move, up to 1,024 of them
abbrev pub Shown : Type 0
Shown = (states initial count : ℕ) (records : List Transition) (q i k : ℕ) (r : Transition)
    → Lists states count records q i k r → i < max_moves
    → (i < move_count (tabled_transitions states initial count records) q) × (move_at (tabled_transitions states initial count records) q i ≡ move_of r)

-- a record that leaves or leads to what is not a state changes nothing: without it the table means the same
abbrev pub Ignored : Type 0
Ignored = (states initial count : ℕ) (before after : List Transition) (r : Transition) (sets : List ℕ)
    → length before ≤ count → (states ≤ r.source) ⊎ (states ≤ r.target)
    → tabled states initial (suc count) (before ++ r ∷ after) sets ≡ tabled states initial count (before ++ after) sets

-- records behind those that the table reads change nothing, nor do sets behind the last state's
abbrev pub Unread : Type 0
Unread = (states initial count : ℕ) (records : List Transition) (sets : List ℕ)
    → tabled states initial count records sets ≡ tabled states initial count (take count records) (take states sets)

-- all four
pub record Listing : Type 0 where
  pub recorded : Recorded
  pub shown : Shown
  pub ignored : Ignored
  pub unread : Unread
