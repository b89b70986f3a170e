-- The meaning of a node is its line of the table, over the meaning of its parts. Assumes nothing.
use Rattle.std.proofs.Common.{◌≡◌, ℕ, zero, suc, ◌<◌, Bool, true, false, T, ◌⊎◌, sym, refl, subst, inl, inr, arith}
use Rattle.systems.specs.Meaning.{Meaning, move_count}
use Rattle.logic.specs.Guards.{Guard}
use Rattle.logic.specs.declared.nodes.Kind.{Kind}
use Rattle.logic.specs.declared.nodes.Kind.TheVariants.{True, False, Final, Proposition, Not, And, Or, Diamond, BoxAll, AllNext, Eventually, Always, ExistsUntil, AllUntil, ExistsUntilBy, AllUntilBy, Min, Max, Variable}
use Rattle.logic.specs.Unfolding.{Agree, unfolds, SomeMove, EveryMove, Has, HasOrTau, to}
use Rattle.logic.specs.Holding.{Manner, direct, bound, fixed, binds, manner, Fix, Assignment, assign, line, holds_in, Holds, Part, Numbered, ByLines}
use Rattle.logic.specs.Laid.{IsBinder, body_of}

-- the body of a binder is its part
pub body_part : (K : Kind) → IsBinder (manner K) → Part K (body_of (manner K)) true
body_part True h = absurd h
body_part False h = absurd h
body_part Final h = absurd h
body_part (Proposition x) h = absurd h
body_part (Not a) h = absurd h
body_part (And a b) h = absurd h
body_part (Or a b) h = absurd h
body_part (Diamond x a) h = absurd h
body_part (BoxAll x a) h = absurd h
body_part (AllNext x a) h = absurd h
body_part (Eventually a) h = absurd h
body_part (Always a) h = absurd h
body_part (ExistsUntil a x b) h = absurd h
body_part (AllUntil a x b) h = absurd h
body_part (ExistsUntilBy a x y b) h = absurd h
body_part (AllUntilBy a x y b) h = absurd h
body_part (Min a) h = (refl, refl)
body_part (Max a) h = (refl, refl)
body_part (Variable b) h = absurd h

module _ (S : Meaning) (accepts : Guard → ℕ → Bool) where
  -- the table reads parts alone
  reads : (K : Kind) (f g : Bool → ℕ → ℕ → Type 0) → ((p : Bool) (k : ℕ) → Part K k p → f p k ≡ g p k) → unfolds S accepts K f ≡ unfolds S accepts K g
  reads True f g h = refl
  reads False f g h = refl
  reads Final f g h = refl
  reads (Proposition x) f g h = refl
  reads (Not a) f g h = λ i. unfolds S accepts (Not a) (λ _ _. h false a (refl, refl) i)
  reads (And a b) f g h = λ i again q. (h true a (inl refl, refl) i q) × (h true b (inr refl, refl) i q)
  reads (Or a b) f g h = λ i again q. (h true a (inl refl, refl) i q) ⊎ (h true b (inr refl, refl) i q)
  reads (Diamond x a) f g h = λ i. unfolds S accepts (Diamond x a) (λ _ _. h true a (refl, refl) i)
  reads (BoxAll x a) f g h = λ i. unfolds S accepts (BoxAll x a) (λ _ _. h true a (refl, refl) i)
  reads (AllNext x a) f g h = λ i. unfolds S accepts (AllNext x a) (λ _ _. h true a (refl, refl) i)
  reads (Eventually a) f g h = λ i. unfolds S accepts (Eventually a) (λ _ _. h true a (refl, refl) i)
  reads (Always a) f g h = λ i. unfolds S accepts (Always a) (λ _ _. h true a (refl, refl) i)
  reads (ExistsUntil a x b) f g h = λ i again q. (h true b (inr refl, refl) i q) ⊎ ((h true a (inl refl, refl) i q) × SomeMove S accepts q (λ m. HasOrTau S accepts x q m × again (to S accepts q m)))
  reads (AllUntil a x b) f g h = λ i again q. (h true b (inr refl, refl) i q) ⊎ ((h true a (inl refl, refl) i q) × (0 < move_count S.transitions q) × EveryMove S accepts q (λ m. HasOrTau S accepts x q m × again (to S accepts q m)))
  reads (ExistsUntilBy a x y b) f g h = λ i again q. (h true a (inl refl, refl) i q) × SomeMove S accepts q (λ m. (Has S accepts y q m × h true b (inr refl, refl) i (to S accepts q m)) ⊎ (HasOrTau S accepts x q m × again (to S accepts q m)))
  reads (AllUntilBy a x y b) f g h = λ i again q. (h true a (inl refl, refl) i q) × (0 < move_count S.transitions q) × EveryMove S accepts q (λ m. (Has S accepts y q m × h true b (inr refl, refl) i (to S accepts q m)) ⊎ (HasOrTau S accepts x q m × again (to S accepts q m)))
  reads (Min a) f g h = λ i. unfolds S accepts (Min a) (λ _ _. h true a (refl, refl) i)
  reads (Max a) f g h = λ i. unfolds S accepts (Max a) (λ _ _. h true a (refl, refl) i)
  reads (Variable b) f g h = refl

  -- so does a line
  agrees : (M U : ℕ → Assignment → ℕ → Type 0) (ρ : Assignment) (p : Bool) (k : ℕ) → M k ≡ U k → ◌≡◌ {A = ℕ → Type 0} (λ q. Agree p (M k ρ q)) (λ q. Agree p (U k ρ q))
  agrees M U ρ p k e = λ i q. Agree p (e i ρ q)

  by_manner : (K : Kind) (m : Manner) (j : ℕ) (M U : ℕ → Assignment → ℕ → Type 0) (ρ : Assignment) (q : ℕ) →
      unfolds S accepts K (λ p k r. Agree p (M k ρ r)) ≡ unfolds S accepts K (λ p k r. Agree p (U k ρ r)) → (IsBinder m → M (body_of m) ≡ U (body_of m)) →
      line S accepts K m j M ρ q ≡ line S accepts K m j U ρ q
  by_manner K direct j M U ρ q e h = λ i. e i (λ _. ⊥) q
  by_manner K (bound b) j M U ρ q e h = λ i. e i (ρ b) q
  by_manner K (fixed w) j M U ρ q e h = λ i. Fix w (e i) q
  by_manner K (binds w a) j M U ρ q e h = λ i. Fix w (λ X. h tt i (assign ρ j X)) q

  one_line : (K : Kind) (j : ℕ) (M U : ℕ → Assignment → ℕ → Type 0) → ((p : Bool) (k : ℕ) → Part K k p → M k ≡ U k) → (ρ : Assignment) (q : ℕ) → line S accepts K (manner K) j M ρ q ≡ line S accepts K (manner K) j U ρ q
  one_line K j M U h ρ q = by_manner K (manner K) j M U ρ q (reads K _ _ (λ p k o. agrees M U ρ p k (h p k o))) (λ b. h true (body_of (manner K)) (body_part K b))

  module _ (φ : ℕ → Kind) (n : ℕ) (after : Numbered φ n) where
    -- more turns than the node's number change nothing
    turns : (m u j : ℕ) → j < m → j < u → j < n → holds_in S accepts φ m j ≡ holds_in S accepts φ u j
    unfolding holds_in
    turns zero u j lm lu ln = absurd (omega arith)
    turns (suc m) zero j lm lu ln = absurd (omega arith)
    turns (suc m) (suc u) j lm lu ln =
        λ i ρ q. one_line (φ j) j (holds_in S accepts φ m) (holds_in S accepts φ u) (λ p k o. let kj : k < j = after j k p ln o in turns m u k (omega arith) (omega arith) (omega arith)) ρ q i

    pub holds_line : (j : ℕ) → j < n → (ρ : Assignment) (q : ℕ) → Holds S accepts φ j ρ q ≡ line S accepts (φ j) (manner (φ j)) j (Holds S accepts φ) ρ q
    unfolding holds_in
    holds_line j ln ρ q = one_line (φ j) j (holds_in S accepts φ j) (Holds S accepts φ) (λ p k o. let kj : k < j = after j k p ln o in turns j (suc k) k kj (omega arith) (omega arith)) ρ q

pub by_lines : ByLines
by_lines S accepts φ n after j ln β q =
    let e = holds_line S accepts φ n after j ln (λ b r. T (β b r)) q in
    (λ h. subst (λ P. P) e h, λ h. subst (λ P. P) (sym e) h)
