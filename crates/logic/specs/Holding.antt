-- When a node of a formula holds at a state. A formula is given by the kind of each of its nodes. Assumes nothing.
use Rattle.std.specs.Prelude.{◌≡◌, ℕ, zero, suc, ◌<◌, Bool, true, false, T, ◌⊎◌, ◌↔◌, ◌==◌}
use Rattle.systems.specs.Meaning.{Meaning}
use Rattle.logic.specs.Guards.{Guard}
use Rattle.logic.specs.declared.nodes.Kind.{Kind}
use Rattle.logic.specs.declared.nodes.Kind.TheVariants.{True, False, Final, Proposition, Not, And, Or, Diamond, BoxAll, AllNext, Eventually, Always, ExistsUntil, AllUntil, ExistsUntilBy, AllUntilBy, Min, Max, Variable}
use Rattle.logic.specs.Unfolding.{Agree, unfolds, Least, Greatest}

-- how a kind comes to its meaning: by its unfolding alone; by the set of its binder; as a fixed point of its own unfolding; as a fixed point
-- of its body; the side of a fixed point is true for least, false for greatest
pub data Manner : Type 0 where
  direct : Manner
  bound : ℕ → Manner
  fixed : Bool → Manner
  binds : Bool → ℕ → Manner

-- EF, the untils and min are least, AG and max are greatest
abbrev pub manner : Kind → Manner
manner True = direct
manner False = direct
manner Final = direct
manner (Proposition p) = direct
manner (Not a) = direct
manner (And a b) = direct
manner (Or a b) = direct
manner (Diamond x a) = direct
manner (BoxAll x a) = direct
manner (AllNext x a) = direct
manner (Eventually a) = fixed true
manner (Always a) = fixed false
manner (ExistsUntil a x b) = fixed true
manner (AllUntil a x b) = fixed true
manner (ExistsUntilBy a x y b) = fixed true
manner (AllUntilBy a x y b) = fixed true
manner (Min a) = binds true a
manner (Max a) = binds false a
manner (Variable b) = bound b

-- the least set of an operator, or the greatest
abbrev pub Fix : Bool → ((ℕ → Type 0) → ℕ → Type 0) → ℕ → Type 0
Fix true F q = Least F q
Fix false F q = Greatest F q

-- a set of states for each binder, by the binder's number
abbrev pub Assignment : Type 1
Assignment = ℕ → ℕ → Type 0

abbrev pub choose : Bool → Type 0 → Type 0 → Type 0
choose true P Q = P
choose false P Q = Q

-- the assignment ρ, with the set X at the binder j
abbrev pub assign : Assignment → ℕ → (ℕ → Type 0) → Assignment
assign ρ j X b q = choose (b == j) (X q) (ρ b q)

module _ (S : Meaning) (accepts : Guard → ℕ → Bool) where
  -- the meaning of the node j, of the kind K, from the meaning M of its parts
  abbrev pub line : Kind → Manner → ℕ → (ℕ → Assignment → ℕ → Type 0) → Assignment → ℕ → Type 0
  line K direct j M ρ q = unfolds S accepts K (λ p k r. Agree p (M k ρ r)) (λ _. ⊥) q
  line K (bound b) j M ρ q = unfolds S accepts K (λ p k r. Agree p (M k ρ r)) (ρ b) q
  line K (fixed w) j M ρ q = Fix w (unfolds S accepts K (λ p k r. Agree p (M k ρ r))) q
  line K (binds w a) j M ρ q = Fix w (λ X. M a (assign ρ j X)) q

  -- nodes are numbered after their parts, so j + 1 turns reach all of the node j
  unfoldable pub holds_in : (ℕ → Kind) → ℕ → ℕ → Assignment → ℕ → Type 0
  holds_in φ zero j ρ q = ⊥
  holds_in φ (suc turns) j ρ q = line (φ j) (manner (φ j)) j (holds_in φ turns) ρ q

  -- the node j holds at q, with the variables of its binders at the sets of ρ
  abbrev pub Holds : (ℕ → Kind) → ℕ → Assignment → ℕ → Type 0
  Holds φ j ρ q = holds_in φ (suc j) j ρ q

-- k is a part of a node of the kind K, under a `not` if p is false
abbrev pub Part : Kind → ℕ → Bool → Type 0
Part True k p = ⊥
Part False k p = ⊥
Part Final k p = ⊥
Part (Proposition x) k p = ⊥
Part (Not a) k p = (k ≡ a) × (p ≡ false)
Part (And a b) k p = ((k ≡ a) ⊎ (k ≡ b)) × (p ≡ true)
Part (Or a b) k p = ((k ≡ a) ⊎ (k ≡ b)) × (p ≡ true)
Part (Diamond x a) k p = (k ≡ a) × (p ≡ true)
Part (BoxAll x a) k p = (k ≡ a) × (p ≡ true)
Part (AllNext x a) k p = (k ≡ a) × (p ≡ true)
Part (Eventually a) k p = (k ≡ a) × (p ≡ true)
Part (Always a) k p = (k ≡ a) × (p ≡ true)
Part (ExistsUntil a x b) k p = ((k ≡ a) ⊎ (k ≡ b)) × (p ≡ true)
Part (AllUntil a x b) k p = ((k ≡ a) ⊎ (k ≡ b)) × (p ≡ true)
Part (ExistsUntilBy a x y b) k p = ((k ≡ a) ⊎ (k ≡ b)) × (p ≡ true)
Part (AllUntilBy a x y b) k p = ((k ≡ a) ⊎ (k ≡ b)) × (p ≡ true)
Part (Min a) k p = (k ≡ a) × (p ≡ true)
Part (Max a) k p = (k ≡ a) × (p ≡ true)
Part (Variable b) k p = ⊥

-- the first n nodes are numbered after their parts
abbrev pub Numbered : (ℕ → Kind) → ℕ → Type 0
Numbered φ n = (j k : ℕ) (p : Bool) → j < n → Part (φ j) k p → k < j

-- the meaning of a node is its line, over the meanings of its parts; the variables are at sets that are tests of states
abbrev pub ByLines : Type 0
ByLines = (S : Meaning) (accepts : Guard → ℕ → Bool) (φ : ℕ → Kind) (n : ℕ) → Numbered φ n → (j : ℕ) → j < n → (β : ℕ → ℕ → Bool) (q : ℕ) →
    Holds S accepts φ j (λ b r. T (β b r)) q ↔ line S accepts (φ j) (manner (φ j)) j (Holds S accepts φ) (λ b r. T (β b r)) q
