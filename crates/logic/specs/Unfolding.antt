-- The table of unfoldings: when a node of each kind holds at a state. Assumes nothing.
use Rattle.std.specs.Prelude.{◌≡◌, ℕ, zero, suc, ◌<◌, Bool, true, false, T, ◌⊎◌}
use Rattle.systems.specs.Meaning.{Meaning, move_count, events_at, target_at, holds}
use Rattle.logic.specs.Guards.{Guard}
use Rattle.logic.specs.declared.nodes.Kind.{Kind}
use Rattle.logic.specs.declared.nodes.Kind.TheVariants.{True, False, Final, Proposition, Not, And, Or, Diamond, BoxAll, AllNext, Eventually, Always, ExistsUntil, AllUntil, ExistsUntilBy, AllUntilBy, Min, Max, Variable}

-- a side of a claim or of a part: true says that P holds, false that it fails
abbrev pub Agree : Bool → Type 0 → Type 0
Agree true P = P
Agree false P = P → ⊥

module _ (S : Meaning) (accepts : Guard → ℕ → Bool) where
  -- some move of q; every move of q
  abbrev pub SomeMove : ℕ → (ℕ → Type 0) → Type 0
  SomeMove q P = (i : ℕ) × (i < move_count S.transitions q) × P i

  abbrev pub EveryMove : ℕ → (ℕ → Type 0) → Type 0
  EveryMove q P = (i : ℕ) → i < move_count S.transitions q → P i

  -- the events of the move i satisfy the guard; the guard or tau
  abbrev pub Has : Guard → ℕ → ℕ → Type 0
  Has x q i = T (accepts x (events_at S.transitions q i))

  abbrev pub HasOrTau : Guard → ℕ → ℕ → Type 0
  HasOrTau x q i = Has x q i ⊎ (events_at S.transitions q i ≡ 0)

  abbrev pub to : ℕ → ℕ → ℕ
  to q i = target_at S.transitions q i

  -- `part true k r` says that part k holds at r, `part false k r` that it fails there, and `again r` that what the node returns to (itself,
  -- or the body of a variable's binder) holds at r
  abbrev pub unfolds : Kind → (Bool → ℕ → ℕ → Type 0) → (ℕ → Type 0) → ℕ → Type 0
  unfolds True part again q = Unit {0}
  unfolds False part again q = ⊥
  unfolds Final part again q = move_count S.transitions q ≡ 0
  unfolds (Proposition p) part again q = T (holds S q p)
  unfolds (Not a) part again q = part false a q
  unfolds (And a b) part again q = part true a q × part true b q
  unfolds (Or a b) part again q = part true a q ⊎ part true b q
  unfolds (Diamond x a) part again q = SomeMove q (λ i. Has x q i × part true a (to q i))
  unfolds (BoxAll x a) part again q = EveryMove q (λ i. Has x q i → part true a (to q i))
  unfolds (AllNext x a) part again q = (0 < move_count S.transitions q) × EveryMove q (λ i. Has x q i × part true a (to q i))
  unfolds (Eventually a) part again q = part true a q ⊎ SomeMove q (λ i. again (to q i))
  unfolds (Always a) part again q = part true a q × EveryMove q (λ i. again (to q i))
  unfolds (ExistsUntil a x b) part again q = part true b q ⊎ (part true a q × SomeMove q (λ i. HasOrTau x q i × again (to q i)))
  unfolds (AllUntil a x b) part again q = part true b q ⊎ (part true a q × (0 < move_count S.transitions q) × EveryMove q (λ i. HasOrTau x q i × again (to q i)))
  unfolds (ExistsUntilBy a x y b) part again q = part true a q × SomeMove q (λ i. (Has y q i × part true b (to q i)) ⊎ (HasOrTau x q i × again (to q i)))
  unfolds (AllUntilBy a x y b) part again q = part true a q × (0 < move_count S.transitions q) × EveryMove q (λ i. (Has y q i × part true b (to q i)) ⊎ (HasOrTau x q i × again (to q i)))
  unfolds (Min a) part again q = part true a q
  unfolds (Max a) part again q = part true a q
  unfolds (Variable b) part again q = again q

-- n unfoldings, begun with the set X
abbrev pub iterate : ℕ → ((ℕ → Type 0) → ℕ → Type 0) → (ℕ → Type 0) → ℕ → Type 0
iterate zero F X = X
iterate (suc n) F X = F (iterate n F X)

-- least: some finite number of unfoldings, begun with the empty set, puts q in
abbrev pub Least : ((ℕ → Type 0) → ℕ → Type 0) → ℕ → Type 0
Least F q = (n : ℕ) × iterate n F (λ _. ⊥) q

-- greatest: no number of unfoldings, begun with all states, puts q out
abbrev pub Greatest : ((ℕ → Type 0) → ℕ → Type 0) → ℕ → Type 0
Greatest F q = (n : ℕ) → iterate n F (λ _. Unit {0}) q
