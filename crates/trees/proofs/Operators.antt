-- The parts of a node and the way it comes to its meaning, by its operator. Assumes nothing.
use Rattle.std.proofs.Common.{◌≡◌, ℕ, Bool, true, false, not, ◌⊎◌, List, sym, refl, ap, subst}
use Rattle.logic.specs.Holding.{manner, Manner, direct, bound, fixed, binds, Part}
use Rattle.logic.specs.Laid.{under, IsBinder, deeper}
use Rattle.trees.specs.Trees.{Leaf, verum, falsum, final, named, Unary, negation, diamond, box_all, all_next, eventually, always, Binary, conjunction, disjunction, exists_until, all_until, exists_until_by, all_until_by}
use Rattle.trees.specs.Numbering.{Atom, proposition, variable, leaf_kind, unary_kind, binary_kind, binder_kind, sign_below}

-- the sign of a part, and of a part under a `not`
under_one : (s p : Bool) → p ≡ true → s ≡ under s p
under_one true p e = sym e
under_one false p e = ap not (sym e)

under_other : (s p : Bool) → p ≡ false → not s ≡ under s p
under_other true p e = sym e
under_other false p e = ap not (sym e)

-- no variable and no binder
abbrev pub Plain : Manner → Type 0
Plain direct = Unit {0}
Plain (bound b) = ⊥
Plain (fixed w) = Unit {0}
Plain (binds w a) = ⊥

-- a leaf has no part
pub leaf_part : (l : Leaf Atom) (around : List ℕ) (k : ℕ) (p : Bool) → Part (leaf_kind l around) k p → ⊥
leaf_part verum around k p h = h
leaf_part falsum around k p h = h
leaf_part final around k p h = h
leaf_part (named (proposition x)) around k p h = h
leaf_part (named (variable e)) around k p h = h

-- an operator with one part has that part alone
pub unary_part : (u : Unary ℕ) (m a k : ℕ) (p s : Bool) → Part (unary_kind u m a) k p → (k ≡ a) × (sign_below u s ≡ under s p)
unary_part negation m a k p s h = (h.0, under_other s p h.1)
unary_part (diamond g) m a k p s h = (h.0, under_one s p h.1)
unary_part (box_all g) m a k p s h = (h.0, under_one s p h.1)
unary_part (all_next g) m a k p s h = (h.0, under_one s p h.1)
unary_part eventually m a k p s h = (h.0, under_one s p h.1)
unary_part always m a k p s h = (h.0, under_one s p h.1)

pub unary_plain : (u : Unary ℕ) (m a : ℕ) → Plain (manner (unary_kind u m a))
unary_plain negation m a = tt
unary_plain (diamond g) m a = tt
unary_plain (box_all g) m a = tt
unary_plain (all_next g) m a = tt
unary_plain eventually m a = tt
unary_plain always m a = tt

-- an operator with two parts has those alone
pub binary_part : (o : Binary ℕ) (m a b k : ℕ) (p s : Bool) → Part (binary_kind o m a b) k p → ((k ≡ a) ⊎ (k ≡ b)) × (s ≡ under s p)
binary_part conjunction m a b k p s h = (h.0, under_one s p h.1)
binary_part disjunction m a b k p s h = (h.0, under_one s p h.1)
binary_part (exists_until g) m a b k p s h = (h.0, under_one s p h.1)
binary_part (all_until g) m a b k p s h = (h.0, under_one s p h.1)
binary_part (exists_until_by g g') m a b k p s h = (h.0, under_one s p h.1)
binary_part (all_until_by g g') m a b k p s h = (h.0, under_one s p h.1)

pub binary_plain : (o : Binary ℕ) (m a b : ℕ) → Plain (manner (binary_kind o m a b))
binary_plain conjunction m a b = tt
binary_plain disjunction m a b = tt
binary_plain (exists_until g) m a b = tt
binary_plain (all_until g) m a b = tt
binary_plain (exists_until_by g h) m a b = tt
binary_plain (all_until_by g h) m a b = tt

-- a binder has its body alone
pub binder_part : (w : Bool) (a k : ℕ) (p s : Bool) → Part (binder_kind w a) k p → (k ≡ a) × (s ≡ under s p)
binder_part true a k p s h = (h.0, under_one s p h.1)
binder_part false a k p s h = (h.0, under_one s p h.1)

pub binder_manner : (w : Bool) (a : ℕ) → manner (binder_kind w a) ≡ binds w a
binder_manner true a = refl
binder_manner false a = refl

pub plain_deeper : (m : Manner) (d : ℕ) → Plain m → deeper m d ≡ d
plain_deeper direct d h = refl
plain_deeper (bound b) d h = absurd h
plain_deeper (fixed w) d h = refl
plain_deeper (binds w a) d h = absurd h

pub plain_binds_none : (m : Manner) → Plain m → IsBinder m → ⊥
plain_binds_none direct h b = b
plain_binds_none (bound x) h b = h
plain_binds_none (fixed w) h b = b
plain_binds_none (binds w a) h b = h

pub plain_bound_none : (m : Manner) (b : ℕ) → Plain m → m ≡ bound b → ⊥
plain_bound_none m b h e = subst Plain e h
