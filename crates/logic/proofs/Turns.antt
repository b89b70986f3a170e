-- More turns than an entry's number change nothing. Assumes nothing.
use Rattle.std.proofs.Common.{◌≡◌, ℕ, zero, suc, ◌<◌, Bool, true, false, ◌&&◌, ltb, List, Some, None, Option, sym, refl, ap, ◌∙◌, arith}
use Rattle.std.proofs.lemmas.Bool.{ltb-true}
use Rattle.std.specs.List.{slice_get}
use Rattle.logic.specs.declared.events.EventFormula.{EventFormula}
use Rattle.logic.specs.Events.{by_parts, satisfies_in, satisfies, part_satisfies, ByParts}

-- a part counts only before the entry
guarded : (a k : ℕ) (x y : Bool) → (a < k → x ≡ y) → (ltb a k && x) ≡ (ltb a k && y)
guarded a k x y h = go (ltb a k) refl
  where
    go : (b : Bool) → ltb a k ≡ b → (b && x) ≡ (b && y)
    go true e = h (ltb-true a k e)
    go false e = refl

turns : (entries : List EventFormula) (set : ℕ) (n m k : ℕ) → k < n → k < m → satisfies_in n entries k set ≡ satisfies_in m entries k set
unfolding satisfies_in
turns entries set zero m k ln lm = absurd (omega arith)
turns entries set (suc n) zero k ln lm = absurd (omega arith)
turns entries set (suc n) (suc m) k ln lm =
    ap (by_parts (slice_get entries k) set) (λ i a. guarded a k (satisfies_in n entries a set) (satisfies_in m entries a set) (λ lt. turns entries set n m a (omega arith) (omega arith)) i)

-- an entry by its parts
pub by_parts_lem : ByParts
unfolding satisfies_in
by_parts_lem entries k set = ap (by_parts (slice_get entries k) set) (λ i a. guarded a k (satisfies_in k entries a set) (satisfies entries a set) (λ lt. turns entries set k (suc a) a lt (omega arith)) i)

-- what was read at k, by its parts
module _ (entries : List EventFormula) (k set : ℕ) (o : Option EventFormula) (read : o ≡ slice_get entries k) where
  of_read : (p : Option EventFormula) → o ≡ p → by_parts p set (part_satisfies entries k set) ≡ satisfies entries k set
  of_read p e = sym (by_parts_lem entries k set ∙ ap (λ q. by_parts q set (part_satisfies entries k set)) (sym read ∙ e))

  pub of_none : o ≡ None → false ≡ satisfies entries k set
  of_none e = of_read None e

  pub of_some : (x y : EventFormula) → o ≡ Some x → x ≡ y → by_parts (Some y) set (part_satisfies entries k set) ≡ satisfies entries k set
  of_some x y e f = of_read (Some y) (e ∙ ap Some f)
