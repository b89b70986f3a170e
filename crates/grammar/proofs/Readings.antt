-- Readings with more or fewer turns. Assumes nothing.
use Rattle.std.proofs.Common.{◌≡◌, ℕ, zero, suc, ◌<◌, ◌≤◌, Bool, true, false, cond, List, [], ◌∷◌, length, Some, None, Option, sym, refl, ap, subst, arith}
use native.Mathlib.Decide.{dec_le}
use Rattle.symbols.specs.declared.Symbol.{Symbol}
use Rattle.symbols.specs.Symbols.{is, taken}
use Rattle.symbols.proofs.Telling.{IsPlain, is_it}
use Rattle.grammar.specs.EventParsing.{Reading, spent, refused, got, and_then, if_taken}
use Rattle.grammar.specs.Settling.{settled}

-- x says nothing yet, or what y says
abbrev pub Below : {A : Type 0} → Reading A → Reading A → Type 0
Below spent y = Unit {0}
Below refused y = y ≡ refused
Below (got a us) y = y ≡ got a us

pub below_refl : {A : Type 0} (x : Reading A) → Below x x
below_refl spent = tt
below_refl refused = refl
below_refl (got a us) = refl

pub then_below : {A B : Type 0} (x x' : Reading A) (f f' : A → List Symbol → Reading B) → Below x x' → ((a : A) (us : List Symbol) → Below (f a us) (f' a us)) → Below (and_then x f) (and_then x' f')
then_below spent x' f f' h g = tt
then_below refused x' f f' h g = ap (λ y. and_then y f') h
then_below (got a us) x' f f' h g = subst (λ y. Below (f a us) (and_then y f')) (sym h) (g a us)

pub taken_below : {A : Type 0} (o : Option (List Symbol)) (f f' : List Symbol → Reading A) (x x' : Reading A) → ((us : List Symbol) → Below (f us) (f' us)) → Below x x' → Below (if_taken o f x) (if_taken o f' x')
taken_below None f f' x x' g h = h
taken_below (Some us) f f' x x' g h = g us

-- what is settled stays so
pub settled_below : {A : Type 0} (o : Option (A × List Symbol)) (x y : Reading A) → x ≡ settled o → Below x y → y ≡ settled o
settled_below None x y e h = subst (λ z. Below z y) e h
settled_below (Some p) x y e h = subst (λ z. Below z y) e h

-- in as many turns, of any procedure that only says more with more turns
module _ {A S : Type 0} (run : ℕ → S → List Symbol → Reading A) (more : (n : ℕ) (s : S) (ts : List Symbol) → Below (run n s ts) (run (suc n) s ts)) where
  pub later : (m n : ℕ) → n ≤ m → (s : S) (ts : List Symbol) (o : Option (A × List Symbol)) → run n s ts ≡ settled o → run m s ts ≡ settled o
  later zero n l s ts o e = let z : n ≡ 0 = omega arith in subst (λ k. run k s ts ≡ settled o) z e
  later (suc m) n l s ts o e = go (dec_le n m) (λ h. later m n h s ts o e)
    where
      go : Dec (n ≤ m) → (n ≤ m → run m s ts ≡ settled o) → run (suc m) s ts ≡ settled o
      go (yes h) before = settled_below o (run m s ts) (run (suc m) s ts) (before h) (more m s ts)
      go (no h) before = let z : n ≡ suc m = omega arith in subst (λ k. run k s ts ≡ settled o) z e

-- a settled reading that leaves fewer than so many symbols
abbrev pub Fine : {A : Type 0} → ℕ → Reading A → Type 0
Fine b spent = ⊥
Fine b refused = Unit {0}
Fine b (got a us) = length us < b

pub then_fine : {A B : Type 0} (b c : ℕ) (x : Reading A) (f : A → List Symbol → Reading B) → Fine b x → ((a : A) (us : List Symbol) → length us < b → Fine c (f a us)) → Fine c (and_then x f)
then_fine b c spent f h g = h
then_fine b c refused f h g = tt
then_fine b c (got a us) f h g = g a us h

pub fine_more : {A : Type 0} (b c : ℕ) (x : Reading A) → b ≤ c → Fine b x → Fine c x
fine_more b c spent l h = h
fine_more b c refused l h = tt
fine_more b c (got a us) l h = omega arith

-- what is left behind a symbol that was taken is one shorter
pub taken_fine : {A : Type 0} (c : ℕ) (wanted : Symbol) (ts : List Symbol) (f : List Symbol → Reading A) (x : Reading A) → ((us : List Symbol) → suc (length us) ≡ length ts → Fine c (f us)) → Fine c x → Fine c (if_taken (taken wanted ts) f x)
taken_fine c wanted [] f x g h = h
taken_fine c wanted (s ∷ us) f x g h = go (is s wanted)
  where
    go : (b : Bool) → Fine c (if_taken (cond b (Some us) None) f x)
    go true = g us refl
    go false = h

pub fine_settled : {A : Type 0} (b : ℕ) (x : Reading A) → Fine b x → (o : Option (A × List Symbol)) × (x ≡ settled o)
fine_settled b spent h = absurd h
fine_settled b refused h = (None, refl)
fine_settled b (got a us) h = (Some (a, us), refl)

-- two settled outcomes of one reading are one
pub one_outcome : {A : Type 0} (x : Reading A) (o p : Option (A × List Symbol)) → x ≡ settled o → x ≡ settled p → o ≡ p
one_outcome x None None d e = refl
one_outcome x None (Some q) d e = let z : ◌≡◌ {A = ℕ} 0 1 = cc in absurd (omega arith)
one_outcome x (Some p) None d e = let z : ◌≡◌ {A = ℕ} 0 1 = cc in absurd (omega arith)
one_outcome x (Some p) (Some q) d e =
    let a : p.0 ≡ q.0 = cc in
    let b : p.1 ≡ q.1 = cc in
    λ i. Some (a i, b i)

-- what was taken stood first
pub taken_first : (wanted : Symbol) → IsPlain wanted → (ts us : List Symbol) → taken wanted ts ≡ Some us → ts ≡ wanted ∷ us
taken_first wanted h [] us e = let z : ◌≡◌ {A = ℕ} 0 1 = cc in absurd (omega arith)
taken_first wanted h (s ∷ rest) us e = go (is s wanted) refl e
  where
    go : (b : Bool) → is s wanted ≡ b → cond b (Some rest) None ≡ Some us → s ∷ rest ≡ wanted ∷ us
    go true w d = let r : rest ≡ us = cc in let q : s ≡ wanted = is_it s wanted h w in λ i. q i ∷ r i
    go false w d = let z : ◌≡◌ {A = ℕ} 0 1 = cc in absurd (omega arith)
