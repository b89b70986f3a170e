-- A piece of a line byte by byte, and the bytes before a quote mark. Assumes nothing.
use Rattle.std.proofs.Common.{◌≡◌, ℕ, suc, ◌+◌, ◌≤◌, Bool, true, false, cond, not, eqb, ltb, List, [], ◌∷◌, length, drop, Some, None, Ok, Err, unwrap_or, sym, refl, ap, ◌∙◌, arith, true-eqb}
use Rattle.std.specs.List.{take_while, zip, position, position_or_len, prefix_len}
use Rattle.std.proofs.lemmas.Bool.{ltb-false}
use Rattle.std.proofs.lemmas.List.Folds.{length-prefix_len}
use Rattle.std.proofs.lemmas.List.Recursion.{is_position_or_len}
use Rattle.std.proofs.lemmas.List.Sums.{prefix_len-le-length}
use Rattle.layouts.specs.declared.fault.LineFault.TheVariants.{Other}
use Rattle.layouts.specs.Pieces.{matched, piece_at, before}

-- what the library counts
pub matched_is : (s p : List ℕ) → matched s p ≡ length (take_while (λ q. eqb q.0 q.1) (zip s p))
matched_is s p = counted s p ∙ sym (length-prefix_len (λ q. eqb q.0 q.1) (zip s p))
  where
    counted : (s p : List ℕ) → matched s p ≡ prefix_len (λ q. eqb q.0 q.1) (zip s p)
    counted [] [] = refl
    counted [] (p ∷ ps) = refl
    counted (x ∷ xs) [] = refl
    counted (x ∷ xs) (p ∷ ps) = let e : suc (matched xs ps) ≡ 1 + prefix_len (λ q. eqb q.0 q.1) (zip xs ps) = omega (arith, counted xs ps) in ap (λ n. cond (eqb x p) n 0) e

pub before_is : (b : ℕ) (s : List ℕ) → before b s ≡ unwrap_or (position (λ x. eqb x b) s) (length s)
before_is b s = is_position_or_len (before b) (λ x. eqb x b) refl (λ x xs. let e : suc (before b xs) ≡ 1 + before b xs = omega arith in ap (λ n. cond (eqb x b) 0 n) e) s ∙ go (ltb (position_or_len (λ x. eqb x b) s) (length s)) refl
  where
    go : (t : Bool) → ltb (position_or_len (λ x. eqb x b) s) (length s) ≡ t → position_or_len (λ x. eqb x b) s ≡ unwrap_or (cond t (Some (position_or_len (λ x. eqb x b) s)) None) (length s)
    go true e = refl
    go false e = omega (arith, ltb-false _ _ e, prefix_len-le-length (λ x. not (eqb x b)) s)

pub before_short : (b : ℕ) (xs : List ℕ) → before b xs ≤ length xs
before_short b [] = omega arith
before_short b (x ∷ xs) = go (eqb x b) (before_short b xs)
  where
    go : (t : Bool) → before b xs ≤ length xs → cond t 0 (suc (before b xs)) ≤ suc (length xs)
    go true h = omega arith
    go false h = omega arith

pub matched_short : (s p : List ℕ) → matched s p ≤ length s
matched_short [] [] = omega arith
matched_short (x ∷ xs) [] = omega arith
matched_short [] (p ∷ ps) = omega arith
matched_short (x ∷ xs) (p ∷ ps) = go (eqb x p) (matched_short xs ps)
  where
    go : (b : Bool) → matched xs ps ≤ length xs → cond b (suc (matched xs ps)) 0 ≤ suc (length xs)
    go true h = omega arith
    go false h = omega arith

-- a piece that was read: it stands at its place, all of it
pub record Piece (s : List ℕ) (i : ℕ) (p : List ℕ) (j : ℕ) : Type 0 where
  pub reach : j ≡ i + length p
  pub whole : matched (drop i s) p ≡ length p

pub piece_was : (s : List ℕ) (i : ℕ) (p : List ℕ) (j : ℕ) → piece_at s i p ≡ Ok j → Piece s i p j
piece_was s i p j = go (eqb (matched (drop i s) p) (length p)) refl
  where
    go : (b : Bool) → eqb (matched (drop i s) p) (length p) ≡ b → cond b (Ok (i + length p)) (Err (Other (i + matched (drop i s) p))) ≡ Ok j → Piece s i p j
    go true e h = record { reach = cc; whole = true-eqb _ _ (sym e) }
    go false e h = absurd (let z : ◌≡◌ {A = ℕ} 0 1 = cc in omega arith)
