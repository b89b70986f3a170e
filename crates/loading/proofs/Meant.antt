-- The table over the records and sets of two files means what the files spell. Assumes nothing.
use Rattle.std.proofs.Common.{◌≡◌, ℕ, zero, suc, ◌+◌, ◌-◌, ◌%◌, ◌^◌, ◌<◌, ◌≤◌, Bool, true, false, cond, ◌&&◌, eqb, ltb, leb, List, [], ◌∷◌, ◌++◌, map, length, get_or, take, drop, Some, None, Ok, Err, fold, filter, Option, Result, sym, refl, ap, ◌∙◌, ⊎_elim, mod-eq_of_lt, arith, length-append, length-drop, take_all, ne_eqb}
use lib.Bits.{bit_or, or_lt}
use lib.ListN.{length-map}
use Rattle.std.proofs.lemmas.Nat.{pow_below, pow_pos}
use Rattle.std.proofs.lemmas.List.FromFn.{length-map-range_with_len, get_or-map-range_with_len}
use Rattle.std.proofs.lemmas.List.{take_at, get_or_append_left, get_or-append_right, get_or-drop, ext_get_or}
use Rattle.std.proofs.lemmas.Bool.{cond-true, cond-false, lt-ltb, le-ltb, cases_lt, and_parts}
use Rattle.std.specs.List.{range_with_len, AllByRecursion}
use Rattle.std.specs.Option.{option_map}
use Rattle.files.specs.Lines.{Row}
use Rattle.layouts.specs.Layouts.{Arrow, Marks, marks_of}
use Rattle.layouts.specs.declared.fault.LineFault.{LineFault}
use Rattle.contents.specs.MarksLine.{add_mark, set_of}
use Rattle.contents.specs.declared.marks.Listing.{Listing}
use Rattle.systems.specs.Limits.{max_moves}
use Rattle.systems.specs.Tabled.{counts, move_of, counting as countingAt}
use Rattle.systems.specs.declared.transition.Transition.{Transition}
use Rattle.text.specs.Names.{same_name}
use Rattle.text.specs.Numbering.{number_of}
use Rattle.text.specs.declared.names.Name.{Name}
use Rattle.text.proofs.Picks.{within}
use Rattle.transition_file.specs.Sets.{single, bit_in, add_name}
use Rattle.transition_file.specs.Records.{record_in, events_of, written}
use Rattle.transition_file.specs.TransitionPart.{joins_states, names_in}
use Rattle.label_file.specs.LabelPart.{masks, add_set, add_marks, add_row, labels_at}
use Rattle.label_file.specs.Found.{Changed}
use Rattle.loading.specs.Spelling.{move_in}
use Rattle.loading.proofs.Facts.{Within}

-- a set of names is below 2 ^ 64, where the vocabulary has at most 64
bit_below : (known : List Name) (n : Name) → length known ≤ 64 → bit_in known n < 2 ^ 64
bit_below known n h = go (number_of known n) refl
  where
    go : (o : Option ℕ) → number_of known n ≡ o → single o < 2 ^ 64
    go None e = pow_pos 64
    go (Some i) e = pow_below i 64 (omega (arith, within (λ m. same_name m n) known i e))

set_below : (known : List Name) → length known ≤ 64 → (ns : List Name) (s : ℕ) → s < 2 ^ 64 → fold (add_name known) s ns < 2 ^ 64
set_below known h [] s l = l
set_below known h (n ∷ ns) s l = set_below known h ns (add_name known s n) (or_lt 64 s (bit_in known n) l (bit_below known n h))

pub events_below : (known : List Name) → length known ≤ 64 → (a : Arrow) → events_of known a < 2 ^ 64
events_below known h a = set_below known h (names_in a.label) 0 (pow_pos 64)

-- the records that count at a state are its transitions
module _ (n q : ℕ) (known : List Name) (few : length known ≤ 64) where
  move_same : (a : Arrow) → move_of (record_in known a) ≡ move_in known a
  move_same a = ap (λ e. record { events = e; target = a.target }) (mod-eq_of_lt (events_below known few a))

  counts_same : (a : Arrow) → joins_states n a ≡ true → counts n q (record_in known a) ≡ eqb a.source q
  counts_same a h =
      let p = and_parts (ltb a.source n) (ltb a.target n) h in
      (λ j. (eqb a.source q && p.0 j) && p.1 j) ∙ on (eqb a.source q)
    where
      on : (b : Bool) → ((b && true) && true) ≡ b
      on true = refl
      on false = refl

  pub moves_same : (ars : List Arrow) → AllByRecursion (λ a. joins_states n a ≡ true) ars → map move_of (filter (counts n q) (map (record_in known) ars)) ≡ map (move_in known) (filter (λ a. eqb a.source q) ars)
  moves_same [] h = refl
  moves_same (a ∷ ars) h =
      ap (λ b. map move_of (cond b (record_in known a ∷ filter (counts n q) (map (record_in known) ars)) (filter (counts n q) (map (record_in known) ars)))) (counts_same a h.0) ∙
      go (eqb a.source q) (moves_same ars h.1)
    where
      go : (b : Bool) → map move_of (filter (counts n q) (map (record_in known) ars)) ≡ map (move_in known) (filter (λ a. eqb a.source q) ars) →
          map move_of (cond b (record_in known a ∷ filter (counts n q) (map (record_in known) ars)) (filter (counts n q) (map (record_in known) ars))) ≡ map (move_in known) (cond b (a ∷ filter (λ a. eqb a.source q) ars) (filter (λ a. eqb a.source q) ars))
      go true ih = λ j. move_same a j ∷ ih j
      go false ih = ih

kept_short : {X : Type 0} (p : X → Bool) (xs : List X) → length (filter p xs) ≤ length xs
kept_short p [] = omega arith
kept_short p (x ∷ xs) = go (p x) (kept_short p xs)
  where
    go : (b : Bool) → length (filter p xs) ≤ length xs → length (cond b (x ∷ filter p xs) (filter p xs)) ≤ suc (length xs)
    go true h = omega arith
    go false h = omega arith

-- the moves of a table whose first records are those of the transitions
pub moves_meant : (n m : ℕ) (known : List Name) (ars : List Arrow) (rest : List Transition) → length known ≤ 64 → AllByRecursion (λ a. joins_states n a ≡ true) ars → length ars ≡ m → m ≤ max_moves → (q : ℕ) →
    map move_of (take max_moves (countingAt n q (take m (map (record_in known) ars ++ rest)))) ≡ map (move_in known) (filter (λ a. eqb a.source q) ars)
moves_meant n m known ars rest few all size short q =
    let xs : List Transition = map (record_in known) ars in
    let len : length xs ≡ m = length-map ars (record_in known) ∙ size in
    ap (λ ys. map move_of (take max_moves (countingAt n q ys))) (take_at xs rest m len) ∙
    ap (map move_of) (take_all max_moves (filter (counts n q) xs) (omega (arith, kept_short (counts n q) xs, len))) ∙
    moves_same n q known few ars all

-- what the lines give a state is below 2 ^ 64, and nothing from the number of states up
masks_below : (known names : List Name) → length known ≤ 64 → AllByRecursion (λ s. s < 2 ^ 64) (masks known names)
masks_below known [] h = tt
masks_below known (n ∷ names) h = (bit_below known n h, masks_below known names h)

read_below : (ms : List ℕ) (i : ℕ) → AllByRecursion (λ s. s < 2 ^ 64) ms → get_or ms i 0 < 2 ^ 64
read_below [] i h = pow_pos 64
read_below (m ∷ ms) zero h = h.0
read_below (m ∷ ms) (suc i) h = read_below ms i h.1

abbrev Small : Option ℕ → Type 0
Small None = Unit {0}
Small (Some s) = s < 2 ^ 64

listing_below : (ms : List ℕ) → AllByRecursion (λ s. s < 2 ^ 64) ms → (ns : List ℕ) (o : Option Listing) → Small (option_map (λ l. l.set) o) → Small (option_map (λ l. l.set) (fold (add_mark ms) o ns))
listing_below ms h [] o s = s
listing_below ms h (n ∷ ns) o s = listing_below ms h ns (add_mark ms o n) (one o s)
  where
    one : (o : Option Listing) → Small (option_map (λ l. l.set) o) → Small (option_map (λ l. l.set) (add_mark ms o n))
    one None s = tt
    one (Some l) s = go (leb l.least n && ltb n (length ms))
      where
        go : (b : Bool) → Small (option_map {T = Listing} (λ k. k.set) (cond b (Some (record { least = n + 1; set = bit_or l.set (get_or ms n 0) })) None))
        go true = or_lt 64 l.set (get_or ms n 0) s (read_below ms n h)
        go false = tt

add_below : (s : ℕ) (o : Option ℕ) → s < 2 ^ 64 → Small o → add_set s o < 2 ^ 64
add_below s None h k = h
add_below s (Some t) h k = or_lt 64 s t h k

row_below : (ms : List ℕ) (q s : ℕ) (r : Result Marks LineFault) → AllByRecursion (λ s. s < 2 ^ 64) ms → s < 2 ^ 64 → add_marks ms q s r < 2 ^ 64
row_below ms q s (Err f) h l = l
row_below ms q s (Ok m) h l = go (eqb m.state q)
  where
    go : (b : Bool) → cond b (add_set s (set_of ms m.numbers)) s < 2 ^ 64
    go true = add_below s (set_of ms m.numbers) l (listing_below ms h m.numbers (Some (record { least = 0; set = 0 })) (pow_pos 64))
    go false = l

labels_small : (ms : List ℕ) (q : ℕ) (rs : List Row) (s : ℕ) → AllByRecursion (λ s. s < 2 ^ 64) ms → s < 2 ^ 64 → fold (add_row ms q) s rs < 2 ^ 64
labels_small ms q [] s h l = l
labels_small ms q (r ∷ rs) s h l = labels_small ms q rs (add_row ms q s r) h (row_below ms q s (marks_of r.text) h l)

row_past : (ms : List ℕ) (n q s : ℕ) (r : Result Marks LineFault) → Within n r → n ≤ q → add_marks ms q s r ≡ s
row_past ms n q s (Ok m) w h = cond-false (eqb m.state q) _ _ (ne_eqb m.state q (λ e. omega arith))
row_past ms n q s (Err f) w h = absurd w

labels_past : (ms : List ℕ) (n q : ℕ) (rs : List Row) (s : ℕ) → AllByRecursion (λ r. Within n (marks_of r.text)) rs → n ≤ q → fold (add_row ms q) s rs ≡ s
labels_past ms n q [] s w h = refl
labels_past ms n q (r ∷ rs) s w h = ap (λ t. fold (add_row ms q) t rs) (row_past ms n q s (marks_of r.text) w.0 h) ∙ labels_past ms n q rs s w.1 h

pub labels_meant : (n : ℕ) (known names : List Name) (rs : List Row) (sets : List ℕ) → length known ≤ 64 → AllByRecursion (λ r. Within n (marks_of r.text)) rs → ((q : ℕ) → q < n → get_or sets q 0 ≡ labels_at (masks known names) rs q) → (q : ℕ) →
    cond (ltb q n) (get_or sets q 0 % 2 ^ 64) 0 ≡ labels_at (masks known names) rs q
labels_meant n known names rs sets few all read q = ⊎_elim
    (λ lt. cond-true (ltb q n) _ _ (lt-ltb q n lt) ∙ ap (λ s. s % 2 ^ 64) (read q lt) ∙ mod-eq_of_lt (labels_small (masks known names) q rs 0 (masks_below known names few) (pow_pos 64)))
    (λ le. cond-false (ltb q n) _ _ (le-ltb q n le) ∙ sym (labels_past (masks known names) n q rs 0 all le))
    (cases_lt q n)

-- values written over places, and places that changed, as one list before the rest
pub written_front : {X : Type 0} (vs xs : List X) (m : ℕ) → length vs ≡ m → m ≤ length xs → written vs xs ≡ vs ++ drop m xs
written_front {X} [] [] m e h = ap (λ k. drop {A = X} k []) e
written_front (v ∷ vs) [] m e h = absurd (omega arith)
written_front [] (x ∷ xs) m e h = ap (λ k. drop k (x ∷ xs)) e
written_front (v ∷ vs) (x ∷ xs) zero e h = absurd (omega arith)
written_front (v ∷ vs) (x ∷ xs) (suc m) e h = ap (λ ys. v ∷ ys) (written_front vs xs m (omega arith) (omega arith))

pub changed_front : (f : ℕ → ℕ) (n : ℕ) (before after : List ℕ) → n ≤ length before → Changed (λ q _. f q) n before after → after ≡ map f (range_with_len 0 n) ++ drop n before
changed_front f n before after h c =
    let front : List ℕ = map f (range_with_len 0 n) in
    let len : length front ≡ n = length-map-range_with_len f 0 n in
    ext_get_or 0 after (front ++ drop n before) (c.long ∙ omega (arith, length-append front (drop n before), length-drop n before, len))
    (λ q w. ⊎_elim
    (λ lt. c.below q lt (omega (arith, c.long)) ∙ sym (get_or_append_left front (drop n before) 0 q (omega arith) ∙ get_or-map-range_with_len f 0 n q q 0 lt (omega arith)))
    (λ le. c.above q le ∙ sym (get_or-append_right front (drop n before) n q 0 len le ∙ get_or-drop n before (q - n) 0 ∙ (let e : n + (q - n) ≡ q = omega arith in ap (λ k. get_or before k 0) e)))
    (cases_lt q n))
