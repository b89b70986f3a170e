-- The lines of a file one by one, and how they make up the file. Assumes nothing.
use Rattle.std.proofs.Common.{◌≡◌, ℕ, suc, ◌+◌, ◌<◌, ◌≤◌, Bool, true, false, cond, eqb, ltb, List, [], ◌∷◌, length, take, drop, Some, None, sym, refl, ap, ◌∙◌, subst, arith, length-drop, drop-drop, true-eqb}
use Rattle.std.proofs.lemmas.Bool.{lt-ltb, le-ltb, ltb-true, ltb-false}
use Rattle.std.proofs.lemmas.List.{drop_all}
use Rattle.std.specs.List.{flat_map, AllByRecursion}
use Rattle.layouts.specs.Pieces.{before}
use Rattle.layouts.proofs.Matching.{before_short}
use Rattle.files.specs.Lines.{Row, line_at, lead, rows_from, line_of, end_of, printed_row, Whole, Follow, RowsTile}

-- the first byte b from a place on, or the end, is not past the end
pub end_inside : (b : ℕ) (s : List ℕ) (i end : ℕ) → end ≡ i + before b (drop i s) → i ≤ length s → end ≤ length s
end_inside b s i end e h = omega (arith, e, before_short b (drop i s), length-drop i s)

tile_lead : (at x : ℕ) (rs : List Row) → flat_map printed_row (lead at x rs) ≡ x ∷ flat_map printed_row rs
tile_lead at x [] = refl
tile_lead at x (r ∷ rs) = refl

tiles : (at : ℕ) (xs : List ℕ) → flat_map printed_row (rows_from at xs) ≡ xs
tiles at [] = refl
tiles at (x ∷ xs) = go (eqb x 10) refl (tiles (suc at) xs)
  where
    go : (b : Bool) → eqb x 10 ≡ b → flat_map printed_row (rows_from (suc at) xs) ≡ xs → flat_map printed_row (cond b (record { start = at; text = []; ended = true } ∷ rows_from (suc at) xs) (lead at x (rows_from (suc at) xs))) ≡ x ∷ xs
    go true e h = let same : x ≡ 10 = true-eqb x 10 (sym e) in λ j. sym same j ∷ h j
    go false e h = tile_lead at x (rows_from (suc at) xs) ∙ ap (λ ys. x ∷ ys) h

whole_lead : (at x : ℕ) (rs : List Row) → eqb x 10 ≡ false → AllByRecursion Whole rs → AllByRecursion Whole (lead at x rs)
whole_lead at x [] e h = (ap (λ b. cond b 0 1) e, tt)
whole_lead at x (r ∷ rs) e h = (ap (λ b. cond b 0 (suc (before 10 r.text))) e ∙ ap suc h.0, h.1)

wholes : (at : ℕ) (xs : List ℕ) → AllByRecursion Whole (rows_from at xs)
wholes at [] = tt
wholes at (x ∷ xs) = go (eqb x 10) refl (wholes (suc at) xs)
  where
    go : (b : Bool) → eqb x 10 ≡ b → AllByRecursion Whole (rows_from (suc at) xs) → AllByRecursion Whole (cond b (record { start = at; text = []; ended = true } ∷ rows_from (suc at) xs) (lead at x (rows_from (suc at) xs)))
    go true e h = (refl, h)
    go false e h = whole_lead at x (rows_from (suc at) xs) e h

follow_lead : (at x : ℕ) (rs : List Row) → Follow (suc at) rs → Follow at (lead at x rs)
follow_lead at x [] h = refl
follow_lead at x (r ∷ []) h = refl
follow_lead at x (r ∷ (s ∷ rs)) h =
    let n : suc at + length (printed_row r) ≡ at + suc (length (printed_row r)) = omega arith in
    (refl, h.1, subst (λ k. Follow k (s ∷ rs)) n h.2)

follow_cons : (at : ℕ) (rs : List Row) → Follow (suc at) rs → Follow at (record { start = at; text = []; ended = true } ∷ rs)
follow_cons at [] h = refl
follow_cons at (r ∷ rs) h = let n : suc at ≡ at + 1 = omega arith in (refl, refl, subst (λ k. Follow k (r ∷ rs)) n h)

follows : (at : ℕ) (xs : List ℕ) → Follow at (rows_from at xs)
follows at [] = tt
follows at (x ∷ xs) = go (eqb x 10) (follows (suc at) xs)
  where
    go : (b : Bool) → Follow (suc at) (rows_from (suc at) xs) → Follow at (cond b (record { start = at; text = []; ended = true } ∷ rows_from (suc at) xs) (lead at x (rows_from (suc at) xs)))
    go true h = follow_cons at (rows_from (suc at) xs) h
    go false h = follow_lead at x (rows_from (suc at) xs) h

pub rows_tile : RowsTile
rows_tile file = (tiles 0 file, wholes 0 file, follows 0 file)

abbrev pub Found : List ℕ → ℕ → Row × ℕ
Found file at = (record { start = at; text = line_of (drop at file); ended = ltb (end_of file at) (length file) }, end_of file at + cond (ltb (end_of file at) (length file)) 1 0)

-- the lines from a place on begin with the line there
ltb_suc : (m n : ℕ) → ltb (suc m) (suc n) ≡ ltb m n
ltb_suc m n = go (ltb m n) refl
  where
    go : (b : Bool) → ltb m n ≡ b → ltb (suc m) (suc n) ≡ b
    go true e = lt-ltb (suc m) (suc n) (let h = ltb-true m n e in omega arith)
    go false e = le-ltb (suc m) (suc n) (let h = ltb-false m n e in omega arith)

-- a test of two numbers, both further on
ltb_shift : (k m n o : ℕ) → o ≡ k + n → ltb m n ≡ ltb (k + m) o
ltb_shift k m n o e = go (ltb m n) refl
  where
    go : (b : Bool) → ltb m n ≡ b → b ≡ ltb (k + m) o
    go true t = sym (lt-ltb (k + m) o (let h = ltb-true m n t in omega arith))
    go false t = sym (le-ltb (k + m) o (let h = ltb-false m n t in omega arith))

-- how many bytes the first line takes, with the byte that ends it
abbrev taken : List ℕ → ℕ
taken xs = before 10 xs + cond (ltb (before 10 xs) (length xs)) 1 0

abbrev First : ℕ → List ℕ → List Row
First at xs = record { start = at; text = line_of xs; ended = ltb (before 10 xs) (length xs) } ∷ rows_from (at + taken xs) (drop (taken xs) xs)

-- the same, told by the number of bytes before the line's end
abbrev Cut : ℕ → List ℕ → ℕ → Bool → List Row
Cut at xs n b = record { start = at; text = take n xs; ended = b } ∷ rows_from (at + (n + cond b 1 0)) (drop (n + cond b 1 0) xs)

-- a byte 10 first, a last byte, and a byte before others
module _ (at x : ℕ) (xs : List ℕ) where
  row_ends : eqb x 10 ≡ true → rows_from at (x ∷ xs) ≡ First at (x ∷ xs)
  row_ends e =
      let here : rows_from at (x ∷ xs) ≡ record { start = at; text = []; ended = true } ∷ rows_from (suc at) xs = ap (λ b. cond b (record { start = at; text = []; ended = true } ∷ rows_from (suc at) xs) (lead at x (rows_from (suc at) xs))) e in
      let none : before 10 (x ∷ xs) ≡ 0 = ap (λ b. cond b 0 (suc (before 10 xs))) e in
      let more : ltb (before 10 (x ∷ xs)) (suc (length xs)) ≡ true = lt-ltb _ _ (omega arith) in
      let on : suc at ≡ at + (0 + 1) = omega arith in
      here ∙ ap (λ k. record { start = at; text = []; ended = true } ∷ rows_from k xs) on ∙ (λ j. Cut at (x ∷ xs) (sym none j) (sym more j))

  row_goes_on : eqb x 10 ≡ false → rows_from at (x ∷ xs) ≡ lead at x (rows_from (suc at) xs)
  row_goes_on e = ap (λ b. cond b (record { start = at; text = []; ended = true } ∷ rows_from (suc at) xs) (lead at x (rows_from (suc at) xs))) e

row_alone : (at x : ℕ) → eqb x 10 ≡ false → rows_from at (x ∷ []) ≡ First at (x ∷ [])
row_alone at x e =
    let one : before 10 (x ∷ []) ≡ 1 = ap (λ b. cond b 0 1) e in
    let last : ltb (before 10 (x ∷ [])) 1 ≡ false = le-ltb _ _ (omega arith) in
    row_goes_on at x [] e ∙ (λ j. Cut at (x ∷ []) (sym one j) (sym last j))

row_more : (at x : ℕ) (xs : List ℕ) → eqb x 10 ≡ false → rows_from (suc at) xs ≡ First (suc at) xs → rows_from at (x ∷ xs) ≡ First at (x ∷ xs)
row_more at x xs e ih =
    let n : ℕ = before 10 xs in
    let b : Bool = ltb n (length xs) in
    let t : ℕ = n + cond b 1 0 in
    let size : before 10 (x ∷ xs) ≡ suc n = ap (λ b. cond b 0 (suc (before 10 xs))) e in
    let ends : ltb (before 10 (x ∷ xs)) (suc (length xs)) ≡ b = ap (λ k. ltb k (suc (length xs))) size ∙ ltb_suc n (length xs) in
    let on : suc at + t ≡ at + (suc n + cond b 1 0) = omega arith in
    let cut : suc t ≡ suc n + cond b 1 0 = omega arith in
    row_goes_on at x xs e ∙ ap (lead at x) ih ∙
    (λ j. record { start = at; text = x ∷ take n xs; ended = b } ∷ rows_from (on j) (drop (cut j) (x ∷ xs))) ∙
    (λ j. Cut at (x ∷ xs) (sym size j) (sym ends j))

pub first_row : (at : ℕ) (xs : List ℕ) → 0 < length xs → rows_from at xs ≡ First at xs
first_row at [] h = absurd (omega arith)
first_row at (x ∷ []) h = go (eqb x 10) refl
  where
    go : (b : Bool) → eqb x 10 ≡ b → rows_from at (x ∷ []) ≡ First at (x ∷ [])
    go true e = row_ends at x [] e
    go false e = row_alone at x e
first_row at (x ∷ (y ∷ ys)) h = go (eqb x 10) refl (first_row (suc at) (y ∷ ys) (omega arith))
  where
    go : (b : Bool) → eqb x 10 ≡ b → rows_from (suc at) (y ∷ ys) ≡ First (suc at) (y ∷ ys) → rows_from at (x ∷ (y ∷ ys)) ≡ First at (x ∷ (y ∷ ys))
    go true e ih = row_ends at x (y ∷ ys) e
    go false e ih = row_more at x (y ∷ ys) e ih

-- the lines from the place `at` of a file on, by the line there
pub rows_at : (file : List ℕ) (at : ℕ) (r : Row) (after : ℕ) → line_at file at ≡ Some (r, after) → rows_from at (drop at file) ≡ r ∷ rows_from after (drop after file)
rows_at file at r after = go (ltb at (length file)) refl
  where
    go : (b : Bool) → ltb at (length file) ≡ b → cond b (Some (Found file at)) None ≡ Some (r, after) → rows_from at (drop at file) ≡ r ∷ rows_from after (drop after file)
    go false e h = absurd (let z : ◌≡◌ {A = ℕ} 0 1 = cc in omega arith)
    go true e h =
        let xs : List ℕ = drop at file in
        let inside : at < length file = ltb-true at (length file) e in
        let n : ℕ = before 10 xs in
        let ends : ltb n (length xs) ≡ ltb (end_of file at) (length file) = ltb_shift at n (length xs) (length file) (omega (arith, length-drop at file)) in
        let same : Found file at ≡ (r, after) = cc in
        let t : ℕ = n + cond (ltb (end_of file at) (length file)) 1 0 in
        let to : at + t ≡ end_of file at + cond (ltb (end_of file at) (length file)) 1 0 = omega arith in
        first_row at xs (omega (arith, length-drop at file)) ∙ (λ j. Cut at xs n (ends j)) ∙
        (λ j. record { start = at; text = line_of xs; ended = ltb (end_of file at) (length file) } ∷ rows_from (to j) ((drop-drop t at file ∙ ap (λ k. drop k file) to) j)) ∙
        (λ j. (same j).0 ∷ rows_from (same j).1 (drop (same j).1 file))

pub rows_none : (file : List ℕ) (at : ℕ) → None ≡ line_at file at → rows_from at (drop at file) ≡ []
rows_none file at = go (ltb at (length file)) refl
  where
    go : (b : Bool) → ltb at (length file) ≡ b → None ≡ cond b (Some (Found file at)) None → rows_from at (drop at file) ≡ []
    go true e h = absurd (let z : ◌≡◌ {A = ℕ} 0 1 = cc in omega arith)
    go false e h = ap (rows_from at) (drop_all at file (ltb-false at (length file) e))

-- the lines of a file from the place `at` on
abbrev pub rows_past : List ℕ → ℕ → List Row
rows_past file at = rows_from at (drop at file)

-- the place after a line lies behind its start, within the file
pub line_onward : (file : List ℕ) (at : ℕ) (r : Row) (after : ℕ) → line_at file at ≡ Some (r, after) → (at < after) × (after ≤ length file)
line_onward file at r after = go (ltb at (length file)) refl
  where
    bound : at < length file → (e : Bool) → ltb (end_of file at) (length file) ≡ e → (at < end_of file at + cond e 1 0) × (end_of file at + cond e 1 0 ≤ length file)
    bound h true e = let l = ltb-true (end_of file at) (length file) e in (omega arith, omega arith)
    bound h false e = let l = ltb-false (end_of file at) (length file) e in (omega arith, omega (arith, before_short 10 (drop at file), length-drop at file))

    go : (b : Bool) → ltb at (length file) ≡ b → cond b (Some (Found file at)) None ≡ Some (r, after) → (at < after) × (after ≤ length file)
    go false e h = absurd (let z : ◌≡◌ {A = ℕ} 0 1 = cc in omega arith)
    go true e h =
        let same : Found file at ≡ (r, after) = cc in
        subst (λ k. (at < k) × (k ≤ length file)) (ap (λ p. p.1) same) (bound (ltb-true at (length file) e) (ltb (end_of file at) (length file)) refl)
