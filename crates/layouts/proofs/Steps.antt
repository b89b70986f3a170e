-- One step of a layout, both ways: what was read stands there, and what stands there is read. Assumes nothing.
use Rattle.std.proofs.Common.{◌≡◌, ℕ, suc, ◌+◌, ◌-◌, ◌<◌, Bool, true, false, cond, eqb, List, [], ◌∷◌, ◌++◌, length, take, drop, Ok, Err, Result, sym, refl, ap, ◌∙◌, arith, length-drop, drop-drop, eq-eqb, true-eqb}
use Rattle.std.specs.Prelude.{⊤}
use Rattle.std.proofs.lemmas.List.{drop_all, drop_at, take_at, length-take-le, take-append-drop}
use Rattle.layouts.specs.declared.number.Number.{Number}
use Rattle.layouts.specs.declared.fault.NumberFault.{NumberFault}
use Rattle.layouts.specs.declared.fault.LineFault.TheVariants.{Other}
use Rattle.layouts.specs.Numbers.{digits, numeral, number_at, Stands}
use Rattle.layouts.specs.Pieces.{and_then, matched, piece_at, unquoted, end_at, in_line, line_number_at}
use Rattle.layouts.specs.Layouts.{between, quote_from}
use Rattle.layouts.proofs.Digits.{numerals}
use Rattle.layouts.proofs.Matching.{piece_was, before_short}

-- a chain that ended well began well
pub begun : {X Y E : Type 0} (r : Result X E) (f : X → Result Y E) (y : Y) → and_then r f ≡ Ok y → (G : Type 0) → ((x : X) → r ≡ Ok x → f x ≡ Ok y → G) → G
begun (Ok x) f y e G go = go x refl e
begun (Err d) f y e G go = absurd (let z : ◌≡◌ {A = ℕ} 0 1 = cc in omega arith)

pub ok_same : {X E : Type 0} (x y : X) → ◌≡◌ {A = Result X E} (Ok x) (Ok y) → x ≡ y
ok_same x y e = cc

matched_text : (s p : List ℕ) → matched s p ≡ length p → s ≡ p ++ drop (length p) s
matched_text s [] e = refl
matched_text [] (p ∷ ps) e = absurd (omega arith)
matched_text (x ∷ xs) (p ∷ ps) e = go (eqb x p) refl e (matched_text xs ps)
  where
    go : (b : Bool) → eqb x p ≡ b → cond b (suc (matched xs ps)) 0 ≡ suc (length ps) → (matched xs ps ≡ length ps → xs ≡ ps ++ drop (length ps) xs) → x ∷ xs ≡ p ∷ (ps ++ drop (length ps) xs)
    go true t h rest = let same : x ≡ p = true-eqb x p (sym t) in let tail : xs ≡ ps ++ drop (length ps) xs = rest (omega arith) in λ j. same j ∷ tail j
    go false t h rest = absurd (omega arith)

matched_all : (p t : List ℕ) → matched (p ++ t) p ≡ length p
matched_all [] [] = refl
matched_all [] (x ∷ t) = refl
matched_all (p ∷ ps) t = ap (λ b. cond b (suc (matched (ps ++ t) ps)) 0) (eq-eqb p p refl) ∙ ap suc (matched_all ps t)

-- what is left after a part that stands at i
left : (s p t : List ℕ) (i : ℕ) → drop i s ≡ p ++ t → drop (i + length p) s ≡ t
left s p t i e = sym (drop-drop (length p) i s) ∙ ap (drop (length p)) e ∙ drop_at p t (length p) refl

module _ (s : List ℕ) (i : ℕ) (p : List ℕ) where
  pub piece_text : (j : ℕ) → piece_at s i p ≡ Ok j → drop i s ≡ p ++ drop j s
  piece_text j e =
      let w = piece_was s i p j e in
      matched_text (drop i s) p w.whole ∙ ap (λ ys. p ++ ys) (drop-drop (length p) i s ∙ ap (λ k. drop k s) (sym w.reach))

  pub piece_read : (t : List ℕ) → drop i s ≡ p ++ t → piece_at s i p ≡ Ok (i + length p)
  piece_read t e = ap (λ b. cond b (Ok (i + length p)) (Err (Other (i + matched (drop i s) p)))) (eq-eqb _ _ (ap (λ ys. matched ys p) e ∙ matched_all p t))

  pub piece_left : (t : List ℕ) → drop i s ≡ p ++ t → drop (i + length p) s ≡ t
  piece_left t e = left s p t i e

pub number_was : (s : List ℕ) (i : ℕ) (n : Number) → line_number_at s i ≡ Ok n → number_at s i ≡ Ok n
number_was s i n = go (number_at s i)
  where
    go : (r : Result Number NumberFault) → in_line r ≡ Ok n → r ≡ Ok n
    go (Ok m) e = cc
    go (Err f) e = absurd (let z : ◌≡◌ {A = ℕ} 0 1 = cc in omega arith)

pub number_stands : (s : List ℕ) (i : ℕ) (n : Number) → line_number_at s i ≡ Ok n → Stands s i n.value n.after
number_stands s i n e = (numerals s i n).0 (number_was s i n e)

module _ (s : List ℕ) (i n : ℕ) (t : List ℕ) (small : n < 10000) (e : drop i s ≡ numeral n ++ t) (done : digits t ≡ 0) where
  pub number_left : drop (i + length (numeral n)) s ≡ t
  number_left = left s (numeral n) t i e

  pub number_read : line_number_at s i ≡ Ok (record { value = n; after = i + length (numeral n) })
  number_read = ap in_line ((numerals s i (record { value = n; after = i + length (numeral n) })).1 (record {
    small = small;
    reach = refl;
    text = e ∙ ap (λ ys. numeral n ++ ys) (sym number_left);
    done = ap digits number_left ∙ done;
  }))

pub end_text : (s : List ℕ) (i : ℕ) (j : ⊤) → end_at s i ≡ Ok j → drop i s ≡ []
end_text s i j = go (eqb i (length s)) refl
  where
    go : (b : Bool) → eqb i (length s) ≡ b → cond b (Ok tt) (Err (Other i)) ≡ Ok j → drop i s ≡ []
    go true e h = drop_all i s (let z = true-eqb i (length s) (sym e) in omega arith)
    go false e h = absurd (let z : ◌≡◌ {A = ℕ} 0 1 = cc in omega arith)

-- a place that was reached within the line
pub end_read : (s : List ℕ) (i : ℕ) → i ≡ length s → end_at s i ≡ Ok tt
end_read s i e = ap (λ b. cond b (Ok tt) (Err (Other i))) (eq-eqb i (length s) e)

pub left_none : (s p : List ℕ) (i : ℕ) → drop i s ≡ p → 0 < length p → i + length p ≡ length s
left_none s p i e h = omega (arith, length-drop i s, ap length e)

-- a quoted text: the bytes up to the next quote mark
unquoted_front : (xs : List ℕ) → unquoted (take (unquoted xs) xs) ≡ unquoted xs
unquoted_front [] = refl
unquoted_front (x ∷ xs) = go (eqb x 34) refl (unquoted_front xs)
  where
    go : (b : Bool) → eqb x 34 ≡ b → unquoted (take (unquoted xs) xs) ≡ unquoted xs → unquoted (take (cond b 0 (suc (unquoted xs))) (x ∷ xs)) ≡ cond b 0 (suc (unquoted xs))
    go true e h = refl
    go false e h = ap (λ b. cond b 0 (suc (unquoted (take (unquoted xs) xs)))) e ∙ ap suc h

unquoted_app : (l t : List ℕ) → unquoted l ≡ length l → unquoted (l ++ (34 ∷ t)) ≡ length l
unquoted_app [] t e = refl
unquoted_app (x ∷ xs) t e = go (eqb x 34) refl e (unquoted_app xs t)
  where
    go : (b : Bool) → eqb x 34 ≡ b → cond b 0 (suc (unquoted xs)) ≡ suc (length xs) → (unquoted xs ≡ length xs → unquoted (xs ++ (34 ∷ t)) ≡ length xs) → cond (eqb x 34) 0 (suc (unquoted (xs ++ (34 ∷ t)))) ≡ suc (length xs)
    go true q h rest = absurd (omega arith)
    go false q h rest = ap (λ b. cond b 0 (suc (unquoted (xs ++ (34 ∷ t))))) q ∙ ap suc (rest (omega arith))

module _ (s : List ℕ) (i : ℕ) where
  far : quote_from s i - i ≡ unquoted (drop i s)
  far = omega arith

  pub quote_text : drop i s ≡ between s i (quote_from s i) ++ drop (quote_from s i) s
  quote_text =
      sym (take-append-drop (unquoted (drop i s)) (drop i s)) ∙
      (λ j. take (sym far j) (drop i s) ++ drop-drop (unquoted (drop i s)) i s j)

  pub quote_free : unquoted (between s i (quote_from s i)) ≡ length (between s i (quote_from s i))
  quote_free =
      ap (λ n. unquoted (take n (drop i s))) far ∙ unquoted_front (drop i s) ∙
      sym (ap (λ n. length (take n (drop i s))) far ∙ length-take-le (unquoted (drop i s)) (drop i s) (before_short 34 (drop i s)))

  module _ (l t : List ℕ) (free : unquoted l ≡ length l) (e : drop i s ≡ l ++ (34 ∷ t)) where
    pub quote_at : quote_from s i ≡ i + length l
    quote_at = ap (λ n. i + n) (ap unquoted e ∙ unquoted_app l t free)

    pub quote_is : between s i (i + length l) ≡ l
    quote_is = let n : (i + length l) - i ≡ length l = omega arith in ap (λ k. take k (drop i s)) n ∙ ap (take (length l)) e ∙ take_at l (34 ∷ t) (length l) refl

    pub quote_left : drop (i + length l) s ≡ 34 ∷ t
    quote_left = left s l (34 ∷ t) i e
