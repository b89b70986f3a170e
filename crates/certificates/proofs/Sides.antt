-- Sides, and signs seen through one another. Assumes nothing.
use Rattle.std.proofs.Common.{◌≡◌, Bool, true, false, not, T, sym, refl, subst}
use Rattle.logic.specs.Unfolding.{Agree}
use Rattle.logic.specs.Laid.{under}
use Rattle.certificates.specs.Support.{same_side}

pub under_true : (s : Bool) → under s true ≡ s
under_true true = refl
under_true false = refl

pub under_assoc : (s p r : Bool) → under s (under p r) ≡ under (under s p) r
under_assoc true p r = refl
under_assoc false true r = refl
under_assoc false false true = refl
under_assoc false false false = refl

pub under_swap : (s p x : Bool) → under (under s p) x ≡ under (under s x) p
under_swap true true true = refl
under_swap true true false = refl
under_swap true false true = refl
under_swap true false false = refl
under_swap false true true = refl
under_swap false true false = refl
under_swap false false true = refl
under_swap false false false = refl

pub under_twice : (s w : Bool) → under s (under s w) ≡ w
under_twice true w = refl
under_twice false true = refl
under_twice false false = refl

-- no sign is its own other
pub under_odd : (s : Bool) → s ≡ under s false → ⊥
under_odd true e = subst T e tt
under_odd false e = subst T (sym e) tt

pub not_self : (w : Bool) → not w ≡ w → ⊥
not_self true e = subst T (sym e) tt
not_self false e = subst T e tt

pub same_true : (x y : Bool) → same_side x y ≡ true → x ≡ y
same_true true y e = sym e
same_true false true e = e
same_true false false e = refl

pub same_false : (x y : Bool) → same_side x y ≡ false → x ≡ not y
same_false true true e = e
same_false true false e = refl
same_false false true e = refl
same_false false false e = sym e

pub eq_same : (x y : Bool) → x ≡ y → same_side x y ≡ true
eq_same x true e = subst (λ v. same_side v true ≡ true) (sym e) refl
eq_same x false e = subst (λ v. same_side v false ≡ true) (sym e) refl

pub same_not : (w : Bool) → same_side (not w) w ≡ false
same_not true = refl
same_not false = refl

pub same_under : (s t p : Bool) → same_side (under s p) (under t p) ≡ same_side s t
same_under true t true = under_true t
same_under true true false = refl
same_under true false false = refl
same_under false true true = refl
same_under false false true = refl
same_under false true false = refl
same_under false false false = refl

-- what is not the other side is this one
pub other : (x p : Bool) → (x ≡ not p → ⊥) → x ≡ p
other true true h = refl
other true false h = absurd (h refl)
other false true h = absurd (h refl)
other false false h = refl

-- sides against tests
pub side_right : (b s : Bool) → b ≡ s → Agree s (T b)
side_right b true e = subst T (sym e) tt
side_right b false e = λ t. subst T e t

pub side_is : (b s : Bool) → Agree s (T b) → b ≡ s
side_is true true h = refl
side_is false false h = refl
side_is true false h = absurd (h tt)
side_is false true h = absurd h

-- a statement has one side
pub one_side : (s t : Bool) (P : Type 0) → Agree s P → Agree t P → s ≡ t
one_side true true P a b = refl
one_side false false P a b = refl
one_side true false P a b = absurd (b a)
one_side false true P a b = absurd (a b)

pub clash : (p : Bool) (P : Type 0) → Agree p P → Agree (not p) P → ⊥
clash true P a b = b a
clash false P a b = a b

-- what P gives on a side follows where P is not denied on that side
pub given : (s : Bool) (P G : Type 0) → Agree s (Agree s P) → (P → Agree s G) → Agree s G
given true P G h f = f h
given false P G h f = λ g. h (λ p. f p g)

pub both : (s : Bool) (P : Type 0) → P → Agree s (Agree s P)
both true P h = h
both false P h = λ f. f h
