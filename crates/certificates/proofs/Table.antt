-- The table of unfoldings, used by support: it is monotone, a binder unfolds to its body, and a direct kind comes back to nothing. Assumes nothing.
use Rattle.std.proofs.Common.{◌≡◌, ℕ, ◌<◌, Bool, true, false, sym, refl, subst, inl, inr}
use mathlib.Core.Logic.{⊎_map}
use Rattle.systems.specs.Meaning.{Meaning, Lawful}
use Rattle.systems.specs.Law.{target_below}
use Rattle.logic.specs.Guards.{Guard}
use Rattle.logic.specs.declared.nodes.Kind.{Kind}
use Rattle.logic.specs.declared.nodes.Kind.TheVariants.{True, False, Final, Proposition, Not, And, Or, Diamond, BoxAll, AllNext, Eventually, Always, ExistsUntil, AllUntil, ExistsUntilBy, AllUntilBy, Min, Max, Variable}
use Rattle.logic.specs.Unfolding.{Agree, unfolds, to}
use Rattle.logic.specs.Holding.{Manner, direct, bound, fixed, binds, manner, Part}
use Rattle.logic.specs.Laid.{under, IsBinder, body_of}
use Rattle.certificates.specs.Relative.{HasSide}
use Rattle.certificates.proofs.Sides.{clash, given, both}

-- the number of states
abbrev pub size : Meaning → ℕ
size S = S.transitions.states

-- a kind that comes to its meaning by its unfolding alone
abbrev pub IsDirect : Manner → Type 0
IsDirect direct = Unit {0}
IsDirect (bound b) = ⊥
IsDirect (fixed w) = ⊥
IsDirect (binds w a) = ⊥

module _ (S : Meaning) (accepts : Guard → ℕ → Bool) (part : Bool → ℕ → ℕ → Type 0) where
  pub binder_unfolds : (K : Kind) → IsBinder (manner K) → (again : ℕ → Type 0) (q : ℕ) → unfolds S accepts K part again q ≡ part true (body_of (manner K)) q
  binder_unfolds True h again q = absurd h
  binder_unfolds False h again q = absurd h
  binder_unfolds Final h again q = absurd h
  binder_unfolds (Proposition x) h again q = absurd h
  binder_unfolds (Not a) h again q = absurd h
  binder_unfolds (And a b) h again q = absurd h
  binder_unfolds (Or a b) h again q = absurd h
  binder_unfolds (Diamond x a) h again q = absurd h
  binder_unfolds (BoxAll x a) h again q = absurd h
  binder_unfolds (AllNext x a) h again q = absurd h
  binder_unfolds (Eventually a) h again q = absurd h
  binder_unfolds (Always a) h again q = absurd h
  binder_unfolds (ExistsUntil a x b) h again q = absurd h
  binder_unfolds (AllUntil a x b) h again q = absurd h
  binder_unfolds (ExistsUntilBy a x y b) h again q = absurd h
  binder_unfolds (AllUntilBy a x y b) h again q = absurd h
  binder_unfolds (Min a) h again q = refl
  binder_unfolds (Max a) h again q = refl
  binder_unfolds (Variable b) h again q = absurd h

  pub direct_unfolds : (K : Kind) → IsDirect (manner K) → (again again' : ℕ → Type 0) (q : ℕ) →
      unfolds S accepts K part again q ≡ unfolds S accepts K part again' q
  direct_unfolds True h again again' q = refl
  direct_unfolds False h again again' q = refl
  direct_unfolds Final h again again' q = refl
  direct_unfolds (Proposition x) h again again' q = refl
  direct_unfolds (Not a) h again again' q = refl
  direct_unfolds (And a b) h again again' q = refl
  direct_unfolds (Or a b) h again again' q = refl
  direct_unfolds (Diamond x a) h again again' q = refl
  direct_unfolds (BoxAll x a) h again again' q = refl
  direct_unfolds (AllNext x a) h again again' q = refl
  direct_unfolds (Eventually a) h again again' q = absurd h
  direct_unfolds (Always a) h again again' q = absurd h
  direct_unfolds (ExistsUntil a x b) h again again' q = absurd h
  direct_unfolds (AllUntil a x b) h again again' q = absurd h
  direct_unfolds (ExistsUntilBy a x y b) h again again' q = absurd h
  direct_unfolds (AllUntilBy a x y b) h again again' q = absurd h
  direct_unfolds (Min a) h again again' q = absurd h
  direct_unfolds (Max a) h again again' q = absurd h
  direct_unfolds (Variable b) h again again' q = absurd h

-- a binder has the side of its body
module _ (S : Meaning) (accepts : Guard → ℕ → Bool) (s : Bool) (K : Kind) (U : Bool → ℕ → ℕ → Type 0) (V : ℕ → Type 0)
    (ib : IsBinder (manner K)) (q : ℕ) where
  to_body : unfolds S accepts K (λ p k r. Agree s (U p k r)) (λ r. Agree s (V r)) q ≡ Agree s (U true (body_of (manner K)) q)
  to_body = binder_unfolds S accepts (λ p k r. Agree s (U p k r)) K ib (λ r. Agree s (V r)) q

  pub body_counts : U true (body_of (manner K)) q → HasSide S accepts s K U V q
  body_counts u = subst (Agree s) (sym to_body) (both s (U true (body_of (manner K)) q) u)

  pub body_gives : (G : Type 0) → HasSide S accepts s K U V q → (U true (body_of (manner K)) q → Agree s G) → Agree s G
  body_gives G u = given s (U true (body_of (manner K)) q) G (subst (Agree s) to_body u)

module _ (S : Meaning) (lawful : Lawful S) (accepts : Guard → ℕ → Bool) where
  lands : (q i : ℕ) → to S accepts q i < size S
  lands q i = target_below S.transitions lawful.goes q i

  -- over the parts of a kind, in states
  module _ (part part' : Bool → ℕ → ℕ → Type 0) (again again' : ℕ → Type 0) where
    pub unfold_mono : (K : Kind) → ((p : Bool) (k r : ℕ) → Part K k p → r < size S → part p k r → part' p k r) →
        ((r : ℕ) → r < size S → again r → again' r) → (q : ℕ) → q < size S → unfolds S accepts K part again q → unfolds S accepts K part' again' q
    unfold_mono True f g q l u = u
    unfold_mono False f g q l u = u
    unfold_mono Final f g q l u = u
    unfold_mono (Proposition x) f g q l u = u
    unfold_mono (Not a) f g q l u = f false a q (refl, refl) l u
    unfold_mono (And a b) f g q l u = (f true a q (inl refl, refl) l u.0, f true b q (inr refl, refl) l u.1)
    unfold_mono (Or a b) f g q l u = ⊎_map (f true a q (inl refl, refl) l) (f true b q (inr refl, refl) l) u
    unfold_mono (Diamond x a) f g q l u = (u.0, u.1, (u.2.0, f true a _ (refl, refl) (lands q u.0) u.2.1))
    unfold_mono (BoxAll x a) f g q l u = λ i h c. f true a _ (refl, refl) (lands q i) (u i h c)
    unfold_mono (AllNext x a) f g q l u = (u.0, λ i h. ((u.1 i h).0, f true a _ (refl, refl) (lands q i) (u.1 i h).1))
    unfold_mono (Eventually a) f g q l u = ⊎_map (f true a q (refl, refl) l) (λ m. (m.0, m.1, g _ (lands q m.0) m.2)) u
    unfold_mono (Always a) f g q l u = (f true a q (refl, refl) l u.0, λ i h. g _ (lands q i) (u.1 i h))
    unfold_mono (ExistsUntil a x b) f g q l u =
        ⊎_map (f true b q (inr refl, refl) l)
        (λ m. (f true a q (inl refl, refl) l m.0, (m.1.0, m.1.1, (m.1.2.0, g _ (lands q m.1.0) m.1.2.1)))) u
    unfold_mono (AllUntil a x b) f g q l u =
        ⊎_map (f true b q (inr refl, refl) l) (λ m. (f true a q (inl refl, refl) l m.0, m.1, λ i h. ((m.2 i h).0, g _ (lands q i) (m.2 i h).1))) u
    unfold_mono (ExistsUntilBy a x y b) f g q l u = (
      f true a q (inl refl, refl) l u.0,
      (
        u.1.0,
        u.1.1,
        ⊎_map
            (λ e. (e.0, f true b _ (inr refl, refl) (lands q u.1.0) e.1)) (λ e. (e.0, g _ (lands q u.1.0) e.1)) u.1.2,
      ),
    )
    unfold_mono (AllUntilBy a x y b) f g q l u = (
      f true a q (inl refl, refl) l u.0,
      u.1,
      λ i h. ⊎_map
          (λ e. (e.0, f true b _ (inr refl, refl) (lands q i) e.1)) (λ e. (e.0, g _ (lands q i) e.1)) (u.2 i h),
    )
    unfold_mono (Min a) f g q l u = f true a q (refl, refl) l u
    unfold_mono (Max a) f g q l u = f true a q (refl, refl) l u
    unfold_mono (Variable b) f g q l u = g q l u

  module _ (K : Kind) (U : Bool → ℕ → ℕ → Type 0) (V : ℕ → Type 0) where
    -- what has a side where U and V count has it where more counts
    pub support_mono : (U' : Bool → ℕ → ℕ → Type 0) (V' : ℕ → Type 0) → ((p : Bool) (k r : ℕ) → Part K k p → r < size S → U p k r → U' p k r) →
        ((r : ℕ) → r < size S → V r → V' r) → (s : Bool) (q : ℕ) → q < size S → HasSide S accepts s K U V q → HasSide S accepts s K U' V' q
    support_mono U' V' f g true q l u = unfold_mono U U' V V' K f g q l u
    support_mono U' V' f g false q l u = λ h. u (unfold_mono (λ p k r. U' p k r → ⊥) (λ p k r. U p k r → ⊥) (λ r. V' r → ⊥) (λ r. V r → ⊥) K
        (λ p k r o m n x. n (f p k r o m x)) (λ r m n x. n (g r m x)) q l h)

    -- what has a side where U and V count has it of whatever U and V give
    pub unfold_agree : (H : ℕ → ℕ → Type 0) (W : ℕ → Type 0) (s : Bool) →
        ((p : Bool) (k r : ℕ) → Part K k p → r < size S → U p k r → Agree (under s p) (H k r)) → ((r : ℕ) → r < size S → V r → Agree s (W r)) →
        (q : ℕ) → q < size S → HasSide S accepts s K U V q → Agree s (unfolds S accepts K (λ p k r. Agree p (H k r)) W q)
    unfold_agree H W true f g q l u = unfold_mono U (λ p k r. Agree p (H k r)) V W K f g q l u
    unfold_agree H W false f g q l u = λ h. u (unfold_mono (λ p k r. Agree p (H k r)) (λ p k r. U p k r → ⊥) W (λ r. V r → ⊥) K
        (λ p k r o m a c. clash p (H k r) a (f p k r o m c)) (λ r m a c. g r m c a) q l h)
