-- A line of labels as a fold over its numbers. Assumes nothing.
use Rattle.std.proofs.Common.{◌≡◌, ℕ, suc, List, length, Some, Ok, Err, fold, Option, Result, refl, ap, ◌∙◌}
use Rattle.std.specs.Option.{option_map}
use Rattle.layouts.specs.declared.number.Number.{Number}
use Rattle.layouts.specs.declared.fault.LineFault.{LineFault}
use Rattle.layouts.specs.Pieces.{and_then}
use Rattle.layouts.specs.Layouts.{repeated, state_at, listed_at}
use Rattle.contents.specs.NamesLine.{map_ok}
use Rattle.contents.specs.MarksLine.{add_mark, marked_by, marked_of}
use Rattle.contents.specs.declared.marks.Listing.{Listing}
use Rattle.contents.specs.declared.marks.Marked.{Marked}
use Rattle.contents.proofs.Folds.{folding}

abbrev pub marked : ℕ → Option Listing → Marked
marked q l = record { state = q; set = option_map (λ k. k.set) l }

pub state_fault : (masks s : List ℕ) (d : LineFault) → state_at s ≡ Err d → marked_of masks s ≡ Err d
state_fault masks s d e = ap (λ r. map_ok (marked_by masks) (and_then r (λ q. and_then (repeated (listed_at s) (suc (length s)) q.after) (λ ns. Ok (record { state = q.value; numbers = ns }))))) e

pub marked_fold : (masks s : List ℕ) (q : Number) → state_at s ≡ Ok q →
    marked_of masks s ≡ map_ok (marked q.value) (folding (add_mark masks) (listed_at s) (Some (record { least = 0; set = 0 })) (suc (length s)) q.after)
marked_fold masks s q e =
    ap (λ r. map_ok (marked_by masks) (and_then r (λ q. and_then (repeated (listed_at s) (suc (length s)) q.after) (λ ns. Ok (record { state = q.value; numbers = ns }))))) e ∙
    go (repeated (listed_at s) (suc (length s)) q.after)
  where
    go : (r : Result (List ℕ) LineFault) → map_ok (marked_by masks) (and_then r (λ ns. Ok (record { state = q.value; numbers = ns }))) ≡ map_ok (marked q.value) (map_ok (fold (add_mark masks) (Some (record { least = 0; set = 0 }))) r)
    go (Ok ns) = refl
    go (Err d) = refl
