-- What a table lists and what it leaves out. Assumes nothing.
use Rattle.std.proofs.Common.{◌≡◌, ℕ, zero, suc, ◌%◌, ◌^◌, ◌<◌, ◌≤◌, min, Bool, true, false, cond, ◌&&◌, eqb, ltb, ◌⊎◌, List, [], ◌∷◌, ◌++◌, map, length, get_or, take, Some, filter, sym, refl, ap, ◌∙◌, ⊎_elim, arith, length-take}
use lib.ListN.{length-map}
use Rattle.std.specs.List.{slice_get}
use Rattle.std.proofs.lemmas.List.{get_or-map, get_or-take, get_or_default, take-take}
use Rattle.std.proofs.lemmas.Option.{slice_get_within, get_or_from_slice_get}
use Rattle.std.proofs.lemmas.Bool.{cond_both, cond-true, cond-false, and_left, and_right, le-ltb, ltb-true}
use Rattle.systems.specs.Limits.{max_moves, max_propositions}
use Rattle.systems.specs.Meaning.{move_count, move_at}
use Rattle.systems.specs.Tabled.{counts, counting, move_of, tabled_transitions, tabled_propositions, tabled}
use Rattle.systems.specs.Listing.{Recorded, Shown, Ignored, Unread, Listing}
use Rattle.systems.specs.declared.transition.Transition.{Transition}
use Rattle.systems.proofs.Kept.{kept_from, nth_kept}

-- a record that no table has
abbrev none : Transition
none = record { source = 0; events = 0; target = 0 }

-- the move i of a table is the i-th record that counts
shown_is : (states initial count : ℕ) (records : List Transition) (q i : ℕ) → i < move_count (tabled_transitions states initial count records) q → move_at (tabled_transitions states initial count records) q i ≡ move_of (get_or (counting states q (take count records)) i none)
shown_is states initial count records q i h =
    let kept = counting states q (take count records) in
    let fewer : i < length (take max_moves kept) = simp length-map at h in
    let few : i < max_moves = omega (arith, simp length-take at fewer) in
    get_or-map move_of (take max_moves kept) i none _ fewer ∙ ap move_of (get_or-take max_moves kept i none few)

recorded : Recorded
recorded states initial count records q i h =
    let kept = counting states q (take count records) in
    let fewer : i < min max_moves (length kept) = simp (length-map, length-take) at h in
    let f = kept_from (counts states q) records count i none (omega arith) in
    let r = get_or records f.place none in
    (f.place, r, record { early = f.early; within = f.within; is = get_or_default records f.place r none f.within; joins = f.passes; rank = f.rank }, shown_is states initial count records q i h ∙ ap move_of f.is)

shown : Shown
shown states initial count records q i k r l few =
    let kept = counting states q (take count records) in
    let passes : counts states q (get_or records k r) ≡ true = ap (counts states q) l.is ∙ l.joins in
    let at = nth_kept (counts states q) records count k r l.early l.within passes in
    let here : slice_get kept i ≡ Some r = ap (slice_get kept) (sym l.rank) ∙ at ∙ ap Some l.is in
    let there : i < move_count (tabled_transitions states initial count records) q = simp (length-map, length-take) (omega (arith, slice_get_within kept i r here)) in
    (there, shown_is states initial count records q i there ∙ ap move_of (get_or_from_slice_get kept i r none here))

-- an element that fails is not missed among those that are kept
kept_without : {X : Type 0} (p : X → Bool) (before after : List X) (r : X) (n : ℕ) → length before ≤ n → p r ≡ false → filter p (take (suc n) (before ++ r ∷ after)) ≡ filter p (take n (before ++ after))
kept_without p [] after r n h e = cond-false (p r) _ _ e
kept_without p (x ∷ before) after r zero h e = absurd (omega arith)
kept_without p (x ∷ before) after r (suc n) h e = ap (λ ys. cond (p x) (x ∷ ys) ys) (kept_without p before after r n (omega arith) e)

-- a record that leaves or leads to what is not a state counts nowhere
pub counts_nowhere : (states q : ℕ) (r : Transition) → (states ≤ r.source) ⊎ (states ≤ r.target) → counts states q r ≡ false
counts_nowhere states q r out = ⊎_elim
    (λ le. and_left (eqb r.source q && ltb r.source states) (ltb r.target states) (and_right (eqb r.source q) (ltb r.source states) (le-ltb r.source states le)))
    (λ le. and_right (eqb r.source q && ltb r.source states) (ltb r.target states) (le-ltb r.target states le))
    out

-- tables whose states have the same counting records and the same sets are one
same_table : (states initial c d : ℕ) (rs ss : List Transition) (us vs : List ℕ) → ((q : ℕ) → counting states q (take c rs) ≡ counting states q (take d ss)) → ((q : ℕ) → tabled_propositions states us q ≡ tabled_propositions states vs q) → tabled states initial c rs us ≡ tabled states initial d ss vs
same_table states initial c d rs ss us vs moves sets = λ i. record {
  transitions = record { states = states; initial = initial; moves = λ q. map move_of (take max_moves (moves q i)) };
  propositions = λ q. sets q i;
}

ignored : Ignored
ignored states initial count before after r sets h out =
    same_table states initial (suc count) count (before ++ r ∷ after) (before ++ after) sets sets (λ q. kept_without (counts states q) before after r count h (counts_nowhere states q r out)) (λ q. refl)

unread : Unread
unread states initial count records sets =
    same_table states initial count count records (take count records) sets (take states sets)
    (λ q. ap (counting states q) (sym (take-take count count records (omega arith))))
    (λ q. cond_both (ltb q states) (get_or sets q 0 % 2 ^ max_propositions) 0 (λ n. n ≡ tabled_propositions states (take states sets) q)
    (λ e. sym (cond-true (ltb q states) _ 0 e ∙ ap (λ n. n % 2 ^ max_propositions) (get_or-take states sets q 0 (ltb-true q states e))))
    (λ e. sym (cond-false (ltb q states) _ 0 e)))

pub listing : Listing
listing = record { recorded = recorded; shown = shown; ignored = ignored; unread = unread }
