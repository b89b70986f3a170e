-- Symbols are told apart by their numbers, and a text is read symbol by symbol. Assumes nothing.
use Rattle.std.proofs.Common.{◌≡◌, ℕ, ◌<◌, ◌≤◌, Bool, true, false, cond, T, eqb, ◌⊎◌, List, [], ◌∷◌, length, get_or, Some, None, sym, refl, ap, ◌∙◌, subst, inl, inr, arith}
use Rattle.std.proofs.lemmas.Bool.{eqb-true, eq-eqb, cond-true, cond-false}
use Rattle.std.specs.Option.{option_map}
use Rattle.symbols.specs.declared.Symbol.{Symbol}
use Rattle.symbols.specs.declared.Symbol.TheVariants as symbol
use Rattle.symbols.specs.Symbols.{symbol_number, is, symbol_at, accept_at, taken, symbols_from}
use Rattle.symbols.proofs.Onward.{symbol_onward, symbols_next}

-- the symbol with a number
plain : List Symbol
plain =
    symbol.End ∷ symbol.OpenRound ∷ symbol.CloseRound ∷ symbol.OpenSquare ∷ symbol.CloseSquare ∷ symbol.OpenCurly ∷ symbol.CloseCurly ∷ symbol.OpenAngle ∷ symbol.CloseAngle ∷ symbol.Colon ∷ symbol.True ∷ symbol.False ∷ symbol.Final ∷ symbol.Not
    ∷ symbol.And ∷ symbol.Or ∷ symbol.Tau ∷ symbol.Min ∷ symbol.Max ∷ symbol.Exists ∷ symbol.All ∷ symbol.Until ∷ symbol.ExistsNext ∷ symbol.AllNext ∷ symbol.Eventually ∷ symbol.Always ∷ symbol.Silent ∷ []

-- a mark, a reserved word or the end
abbrev pub IsPlain : Symbol → Type 0
IsPlain symbol.End = Unit {0}
IsPlain symbol.OpenRound = Unit {0}
IsPlain symbol.CloseRound = Unit {0}
IsPlain symbol.OpenSquare = Unit {0}
IsPlain symbol.CloseSquare = Unit {0}
IsPlain symbol.OpenCurly = Unit {0}
IsPlain symbol.CloseCurly = Unit {0}
IsPlain symbol.OpenAngle = Unit {0}
IsPlain symbol.CloseAngle = Unit {0}
IsPlain symbol.Colon = Unit {0}
IsPlain symbol.True = Unit {0}
IsPlain symbol.False = Unit {0}
IsPlain symbol.Final = Unit {0}
IsPlain symbol.Not = Unit {0}
IsPlain symbol.And = Unit {0}
IsPlain symbol.Or = Unit {0}
IsPlain symbol.Tau = Unit {0}
IsPlain symbol.Min = Unit {0}
IsPlain symbol.Max = Unit {0}
IsPlain symbol.Exists = Unit {0}
IsPlain symbol.All = Unit {0}
IsPlain symbol.Until = Unit {0}
IsPlain symbol.ExistsNext = Unit {0}
IsPlain symbol.AllNext = Unit {0}
IsPlain symbol.Eventually = Unit {0}
IsPlain symbol.Always = Unit {0}
IsPlain symbol.Silent = Unit {0}
IsPlain (symbol.Name n) = ⊥

numbered : (s : Symbol) → IsPlain s → get_or plain (symbol_number s) symbol.End ≡ s
unfolding plain
numbered symbol.End h = refl
numbered symbol.OpenRound h = refl
numbered symbol.CloseRound h = refl
numbered symbol.OpenSquare h = refl
numbered symbol.CloseSquare h = refl
numbered symbol.OpenCurly h = refl
numbered symbol.CloseCurly h = refl
numbered symbol.OpenAngle h = refl
numbered symbol.CloseAngle h = refl
numbered symbol.Colon h = refl
numbered symbol.True h = refl
numbered symbol.False h = refl
numbered symbol.Final h = refl
numbered symbol.Not h = refl
numbered symbol.And h = refl
numbered symbol.Or h = refl
numbered symbol.Tau h = refl
numbered symbol.Min h = refl
numbered symbol.Max h = refl
numbered symbol.Exists h = refl
numbered symbol.All h = refl
numbered symbol.Until h = refl
numbered symbol.ExistsNext h = refl
numbered symbol.AllNext h = refl
numbered symbol.Eventually h = refl
numbered symbol.Always h = refl
numbered symbol.Silent h = refl
numbered (symbol.Name n) h = absurd h

plain_or_name : (s : Symbol) → IsPlain s ⊎ (symbol_number s ≡ 27)
plain_or_name symbol.End = inl tt
plain_or_name symbol.OpenRound = inl tt
plain_or_name symbol.CloseRound = inl tt
plain_or_name symbol.OpenSquare = inl tt
plain_or_name symbol.CloseSquare = inl tt
plain_or_name symbol.OpenCurly = inl tt
plain_or_name symbol.CloseCurly = inl tt
plain_or_name symbol.OpenAngle = inl tt
plain_or_name symbol.CloseAngle = inl tt
plain_or_name symbol.Colon = inl tt
plain_or_name symbol.True = inl tt
plain_or_name symbol.False = inl tt
plain_or_name symbol.Final = inl tt
plain_or_name symbol.Not = inl tt
plain_or_name symbol.And = inl tt
plain_or_name symbol.Or = inl tt
plain_or_name symbol.Tau = inl tt
plain_or_name symbol.Min = inl tt
plain_or_name symbol.Max = inl tt
plain_or_name symbol.Exists = inl tt
plain_or_name symbol.All = inl tt
plain_or_name symbol.Until = inl tt
plain_or_name symbol.ExistsNext = inl tt
plain_or_name symbol.AllNext = inl tt
plain_or_name symbol.Eventually = inl tt
plain_or_name symbol.Always = inl tt
plain_or_name symbol.Silent = inl tt
plain_or_name (symbol.Name n) = inr refl

-- what is one with a mark or a reserved word is that mark or word
pub is_it : (s t : Symbol) → IsPlain t → is s t ≡ true → s ≡ t
unfolding plain
is_it s t ht e = go (plain_or_name s)
  where
    same : symbol_number s ≡ symbol_number t
    same = eqb-true (symbol_number s) (symbol_number t) e

    go : IsPlain s ⊎ (symbol_number s ≡ 27) → s ≡ t
    go (inl hs) = sym (numbered s hs) ∙ ap (λ k. get_or plain k symbol.End) same ∙ numbered t ht
    go (inr n) =
        let at-end : symbol.End ≡ t = ap (λ k. get_or plain k symbol.End) (sym n ∙ same) ∙ numbered t ht in
        let z : 0 ≡ symbol_number t = ap symbol_number at-end in
        let v : symbol_number t ≡ 27 = sym same ∙ n in
        absurd (omega arith)

pub it_is : (s t : Symbol) → s ≡ t → is s t ≡ true
it_is s t e = ap (λ k. eqb k (symbol_number t)) (ap symbol_number e) ∙ eq-eqb (symbol_number t) (symbol_number t) refl

pub is_not : (s t : Symbol) → IsPlain t → (s ≡ t → ⊥) → is s t ≡ false
is_not s t ht n = go (is s t) refl
  where
    go : (b : Bool) → is s t ≡ b → b ≡ false
    go true e = absurd (n (is_it s t ht e))
    go false e = refl

-- a reader that is handed the next symbol sees it at the front of the symbols
module _ (text : List ℕ) (i : ℕ) where
  pub front_symbol : is (symbol_at text i).symbol symbol.End ≡ false → symbols_from text i ≡ (symbol_at text i).symbol ∷ symbols_from text (symbol_at text i).after
  front_symbol e = symbols_next text i ∙ cond-false (is (symbol_at text i).symbol symbol.End) [] _ e

  pub front_end : is (symbol_at text i).symbol symbol.End ≡ true → symbols_from text i ≡ []
  front_end e = symbols_next text i ∙ cond-true (is (symbol_at text i).symbol symbol.End) [] _ e

  -- what is accepted is taken from the front
  pub accept_takes : (wanted : Symbol) → is symbol.End wanted ≡ false → taken wanted (symbols_from text i) ≡ option_map (symbols_from text) (accept_at text i wanted)
  accept_takes wanted real = go (is (symbol_at text i).symbol symbol.End) refl
    where
      s : Symbol
      s = (symbol_at text i).symbol

      go : (b : Bool) → is s symbol.End ≡ b → taken wanted (symbols_from text i) ≡ option_map (symbols_from text) (accept_at text i wanted)
      go true e =
          let ends : s ≡ symbol.End = is_it s symbol.End tt e in
          ap (taken wanted) (front_end e) ∙ sym (ap (option_map (symbols_from text)) (cond-false (is s wanted) (Some (symbol_at text i).after) None (ap (λ x. is x wanted) ends ∙ real)))
      go false e = ap (taken wanted) (front_symbol e) ∙ by (is s wanted)
        where
          by : (b : Bool) → cond b (Some (symbols_from text (symbol_at text i).after)) None ≡ option_map (symbols_from text) (cond b (Some (symbol_at text i).after) None)
          by true = refl
          by false = refl

  pub accept_onward : (wanted : Symbol) → is symbol.End wanted ≡ false → (k : ℕ) → accept_at text i wanted ≡ Some k → (i < k) × (k ≤ length text)
  accept_onward wanted real k e = go (is (symbol_at text i).symbol wanted) refl e
    where
      s : Symbol
      s = (symbol_at text i).symbol

      ends : (b : Bool) → is s symbol.End ≡ b → is s wanted ≡ true → is s symbol.End ≡ false
      ends false z w = z
      ends true z w = absurd (subst T (sym w ∙ ap (λ x. is x wanted) (is_it s symbol.End tt z) ∙ real) tt)

      go : (b : Bool) → is s wanted ≡ b → cond b (Some (symbol_at text i).after) None ≡ Some k → (i < k) × (k ≤ length text)
      go true w h =
          let o = symbol_onward text i (ends (is s symbol.End) refl w) in
          let same : (symbol_at text i).after ≡ k = cc in
          (omega (arith, o.0), omega (arith, o.1))
      go false w h = let z : ◌≡◌ {A = ℕ} 0 1 = cc in absurd (omega arith)
