-- A fold over the parts of a line that repeat, part by part. Assumes nothing.
use Rattle.std.proofs.Common.{◌≡◌, ℕ, suc, ◌-◌, ◌<◌, List, ◌∷◌, length, Some, None, Ok, Err, fold, Option, Result, refl, ap, ◌∙◌, arith}
use Rattle.layouts.specs.declared.fault.LineFault.{LineFault}
use Rattle.layouts.specs.Pieces.{and_then}
use Rattle.layouts.specs.Layouts.{go_on, repeated}
use Rattle.contents.specs.NamesLine.{map_ok}

module _ {X A : Type 0} (f : A → X → A) (one : ℕ → Result (X × Option ℕ) LineFault) where
  -- what the parts from the place i on come to, in n turns at most
  abbrev pub folding : A → ℕ → ℕ → Result A LineFault
  folding a n i = map_ok (fold f a) (repeated one n i)

  pushed : (a : A) (x : X) (r : Result (List X) LineFault) → map_ok (fold f a) (and_then r (λ xs. Ok (x ∷ xs))) ≡ map_ok (fold f (f a x)) r
  pushed a x (Ok xs) = refl
  pushed a x (Err e) = refl

  module _ (a : A) (n m i : ℕ) (turn : n ≡ suc m) where
    at : (r : Result (X × Option ℕ) LineFault) → one i ≡ r → folding a n i ≡ map_ok (fold f a) (and_then r (λ x. and_then (go_on x.1 (repeated one m)) (λ xs. Ok (x.0 ∷ xs))))
    at r e = ap (λ k. folding a k i) turn ∙ ap (λ r. map_ok (fold f a) (and_then r (λ x. and_then (go_on x.1 (repeated one m)) (λ xs. Ok (x.0 ∷ xs))))) e

    pub fold_fault : (d : LineFault) → one i ≡ Err d → folding a n i ≡ Err d
    fold_fault d e = at (Err d) e

    pub fold_last : (x : X) (next : Option ℕ) → one i ≡ Ok (x, next) → next ≡ None → folding a n i ≡ Ok (f a x)
    fold_last x next e none = at (Ok (x, next)) e ∙ ap (λ o. map_ok (fold f a) (and_then (go_on o (repeated one m)) (λ xs. Ok (x ∷ xs)))) none

    pub fold_more : (x : X) (next : Option ℕ) (j : ℕ) → one i ≡ Ok (x, next) → next ≡ Some j → folding a n i ≡ folding (f a x) m j
    fold_more x next j e some = at (Ok (x, next)) e ∙ ap (λ o. map_ok (fold f a) (and_then (go_on o (repeated one m)) (λ xs. Ok (x ∷ xs)))) some ∙ pushed a x (repeated one m j)

  -- what the parts come to, told by those read so far: all of them, or those from the next place on too, in enough turns
  pub record Going (s : List ℕ) (whole : Result A LineFault) (a : A) (i : ℕ) : Type 0 where
    pub turns : ℕ
    pub many : length s - i < turns
    pub comes : whole ≡ folding a turns i

  abbrev pub Sofar : List ℕ → Result A LineFault → A → Option ℕ → Type 0
  Sofar s whole a None = whole ≡ Ok a
  Sofar s whole a (Some i) = Going s whole a i

  module _ (s : List ℕ) (whole : Result A LineFault) (a : A) (i : ℕ) (g : Going s whole a i) where
    turn : g.turns ≡ suc (g.turns - 1)
    turn = let h = g.many in omega arith

    pub sofar_fault : (d : LineFault) → one i ≡ Err d → whole ≡ Err d
    sofar_fault d e = g.comes ∙ fold_fault a g.turns (g.turns - 1) i turn d e

    pub sofar_more : (x : X) (next : Option ℕ) → one i ≡ Ok (x, next) → ((j : ℕ) → one i ≡ Ok (x, Some j) → length s - j < length s - i) → Sofar s whole (f a x) next
    sofar_more x None e less = g.comes ∙ fold_last a g.turns (g.turns - 1) i turn x None e refl
    sofar_more x (Some j) e less = record {
      turns = g.turns - 1;
      many = let h = g.many in let l = less j e in omega arith;
      comes = g.comes ∙ fold_more a g.turns (g.turns - 1) i turn x (Some j) j e refl;
    }

-- how many bytes are left, and one more, where there is a next part
abbrev pub left : List ℕ → Option ℕ → ℕ
left s None = 0
left s (Some i) = suc (length s - i)
