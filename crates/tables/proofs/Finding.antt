-- The records that a table shows of a state, found by the state's span. Assumes nothing.
use Rattle.std.proofs.Common.{◌≡◌, ℕ, zero, suc, ◌+◌, ◌-◌, ◌<◌, ◌≤◌, Bool, true, false, cond, List, [], ◌∷◌, ◌++◌, length, get_or, take, drop, Some, None, Option, filter, sym, refl, ap, ◌∙◌, subst, ⊎_elim, arith, length-take, length-drop}
use Rattle.std.specs.List.{slice_get}
use Rattle.std.specs.Option.{option_copied}
use Rattle.std.specs.Slice.{IsItemAt}
use denote.Ref.{Bor}
use lib.ListN.{length-map}
use Rattle.std.proofs.lemmas.Option.{slice_get-get_or, slice_get_past}
use Rattle.std.proofs.lemmas.List.{take-append-drop, drop-take, take-take, take_min, nil_from_length}
use Rattle.std.proofs.lemmas.List.Elements.{filter-append}
use Rattle.std.proofs.lemmas.Bool.{cond-true, cond-false, ltb-true, ltb-false, cases_Bool}
use Rattle.systems.specs.Limits.{max_moves}
use Rattle.systems.specs.Meaning.{move_count}
use Rattle.systems.specs.Tabled.{counts}
use Rattle.systems.specs.declared.transition.Transition.{Transition}
use Rattle.tables.specs.Spans.{nowhere, SpanOf}
use Rattle.tables.specs.Shown.{shown_records, transitions_of}
use Rattle.tables.specs.declared.span.Span.{Span}
use Rattle.tables.specs.declared.table.Table.{Table}

-- what `get` answers, by value
pub item_copied : {X : Type 0} (xs : List X) (i : ℕ) (r : Option (Bor X)) → IsItemAt xs i r → option_copied r ≡ slice_get xs i
item_copied xs i None h = sym (slice_get_past xs i (ltb-false i (length xs) (sym h.0)))
item_copied xs i (Some x) h =
    let within : i < length xs = ltb-true i (length xs) (sym h.0) in
    ap Some h.1 ∙ sym (slice_get-get_or xs i x.now within)

-- what a table keeps of a span that was read from it
pub span_read : (t : Table) (q : ℕ) (s : Span) → s ≡ get_or t.spans q nowhere → SpanOf t.shape.states t.shape.moves t.records.now q s
span_read t q s e = subst (SpanOf t.shape.states t.shape.moves t.records.now q) (sym e) (t.spanned q)

-- its count is the number of moves
pub count_shown : (t : Table) (q : ℕ) (s : Span) → s ≡ get_or t.spans q nowhere → s.count ≡ move_count (transitions_of t) q
count_shown t q s e = simp (length-map, length-take) (span_read t q s e).4

-- a front, cut in two
cut : {X : Type 0} (xs : List X) (a b : ℕ) → a ≤ b → take b xs ≡ take a xs ++ take (b - a) (drop a xs)
cut xs a b h =
    let whole : a + (b - a) ≡ b = omega arith in
    let rest : drop a (take b xs) ≡ take (b - a) (drop a xs) = ap (λ n. drop a (take n xs)) (sym whole) ∙ drop-take a (b - a) xs in
    sym (take-append-drop a (take b xs)) ∙ (λ i. take-take a b xs h i ++ rest i)

module _ {X : Type 0} (p : X → Bool) where
  -- what is kept of the first n is the front of what is kept of more
  kept_front : (xs : List X) (n m : ℕ) → n ≤ m → filter p (take n xs) ≡ take (length (filter p (take n xs))) (filter p (take m xs))
  kept_front xs zero m h = refl
  kept_front [] (suc n) zero h = refl
  kept_front [] (suc n) (suc m) h = refl
  kept_front (x ∷ xs) (suc n) zero h = absurd (omega arith)
  kept_front (x ∷ xs) (suc n) (suc m) h =
      let ih = kept_front xs n m (omega arith) in
      elim (p x) as (λ b. cond b (x ∷ filter p (take n xs)) (filter p (take n xs)) ≡ take (length (cond b (x ∷ filter p (take n xs)) (filter p (take n xs)))) (cond b (x ∷ filter p (take m xs)) (filter p (take m xs)))) [ true ↦ ap (◌∷◌ x) ih | false ↦ ih ]

  kept_few : (xs : List X) → length (filter p xs) ≤ length xs
  kept_few [] = omega arith
  kept_few (x ∷ xs) = let ih = kept_few xs in elim (p x) as (λ b. length (cond b (x ∷ filter p xs) (filter p xs)) ≤ suc (length xs)) [ true ↦ omega arith | false ↦ omega arith ]

  -- where as many are kept as there are, all are
  kept_all : (xs : List X) → length (filter p xs) ≡ length xs → filter p xs ≡ xs
  kept_all [] h = refl
  kept_all (x ∷ xs) h = ⊎_elim
      (λ e. let yes = cond-true (p x) (x ∷ filter p xs) (filter p xs) e in yes ∙ ap (◌∷◌ x) (kept_all xs (omega (arith, h, ap length yes))))
      (λ e. let no = cond-false (p x) (x ∷ filter p xs) (filter p xs) e in absurd (omega (arith, h, ap length no, kept_few xs)))
      (cases_Bool (p x))

module _ (states read : ℕ) (records : List Transition) (q : ℕ) (s : Span) (o : SpanOf states read records q s) where
  abbrev p : Transition → Bool
  p = counts states q

  -- the records of the span
  abbrev among : List Transition
  among = take (s.end - s.begin) (drop s.begin records)

  -- past the span's count there is no move
  pub past_count : (i : ℕ) → s.count ≤ i → slice_get (take max_moves (filter p (take read records))) i ≡ None
  past_count i h = slice_get_past (take max_moves (filter p (take read records))) i (simp length-take (omega (arith, h, o.4)))

  -- those of them that count are those that a table shows
  pub span_lists : filter p among ≡ take max_moves (filter p (take read records))
  span_lists =
      let first : filter p (take s.begin records) ≡ [] = nil_from_length _ o.2 in
      let joined : filter p (take s.end records) ≡ filter p among = ap (filter p) (cut records s.begin s.end o.0) ∙ filter-append p (take s.begin records) among ∙ ap (λ rs. rs ++ filter p among) first in
      let read_of : s.end ≤ read = omega (arith, o.1) in
      sym joined ∙ kept_front p records s.end read read_of ∙ ap (λ n. take n (filter p (take read records))) (o.3 ∙ o.4) ∙ take_min max_moves (filter p (take read records))

  -- and where as many count as there are, these are themselves what a table shows
  pub span_dense : s.end - s.begin ≡ s.count → among ≡ take max_moves (filter p (take read records))
  span_dense e =
      let long : length (filter p among) ≡ length among = omega (arith, e, o.0, o.1, o.4, ap length span_lists, length-take max_moves (filter p (take read records)), length-take (s.end - s.begin) (drop s.begin records), length-drop s.begin records) in
      sym (kept_all p among long) ∙ span_lists

-- the same of a table's own span
pub dense_shown : (t : Table) (q : ℕ) (s : Span) → s ≡ get_or t.spans q nowhere → s.end - s.begin ≡ s.count → take (s.end - s.begin) (drop s.begin t.records.now) ≡ shown_records t q
dense_shown t q s e h = span_dense t.shape.states t.shape.moves t.records.now q s (span_read t q s e) h
