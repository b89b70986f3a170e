-- The rounds of a binder, and how their claims merge. Assumes nothing.
use Rattle.std.specs.Prelude.{◌≡◌, ℕ, zero, suc, ◌<◌, ◌≤◌, Bool, cond, not, ◌==◌, ◌≢◌}
use Rattle.systems.specs.Meaning.{Meaning, Lawful}
use Rattle.logic.specs.Guards.{Guard}
use Rattle.logic.specs.declared.nodes.Node.{Node}
use Rattle.logic.specs.Laid.{under, IsBinder, side_of, body_of, form, Laid}
use Rattle.certificates.specs.declared.claim.Claim.{Claim}
use Rattle.certificates.specs.Ranks.{rank_of, Claims}
use Rattle.certificates.specs.Support.{same_side}
use Rattle.certificates.specs.Relative.{AllSupportedGiven}

-- the sets of β, with the set X at the binder j
abbrev pub with_set : (ℕ → ℕ → Bool) → ℕ → (ℕ → Bool) → ℕ → ℕ → Bool
with_set β j X b q = cond (b == j) (X q) (β b q)

-- the first round, up to the round m, since which the side is w
abbrev pub first_since : (ℕ → Bool) → Bool → ℕ → ℕ
first_since side w zero = 0
first_since side w (suc m) = cond (same_side (side m) w) (first_since side w m) (suc m)

module _ (φ : ℕ → Node) where
  -- the node k is inside the binder j, in a formula of n nodes
  abbrev pub Inside : ℕ → (ℕ → ℕ → ℕ) → ℕ → ℕ → Type 0
  Inside n scope j k = (k < n) × ((φ j).depth < (φ k).depth) × (scope k (φ j).depth ≡ j)

  -- the side on which a node k inside the binder j accumulates: that of j, seen through the `not` between them
  abbrev pub accumulates : ℕ → ℕ → Bool
  accumulates j k = under (φ k).sign (under (φ j).sign (side_of (form φ j)))

  -- C i are the claims of the round i of the binder j. The set of its variable in the round 0 is empty if j is least, all states if j is greatest;
  -- in each later round it is what the round before claims of the body
  abbrev pub set_in : ℕ → (ℕ → Claims) → ℕ → ℕ → Bool
  set_in j C zero q = not (side_of (form φ j))
  set_in j C (suc i) q = (C i (body_of (form φ j)) q).holds

  module _ (j : ℕ) (C : ℕ → Claims) (m k q : ℕ) where
    -- after the rounds up to m, the node k inside j has its accumulating side at q
    abbrev pub reached : Bool
    reached = same_side (C m k q).holds (accumulates j k)

    -- the first round since which it has it
    abbrev pub reached_in : ℕ
    reached_in = first_since (λ i. (C i k q).holds) (accumulates j k) m

    -- the merged claim is that of this round, with the number of the round at the place of j; where the side is not reached, it is the last claim,
    -- with 0 there
    pub record Merged (c : Claim) : Type 0 where
      pub side : c.holds ≡ (C m k q).holds
      pub place : rank_of c (φ j).depth ≡ cond reached reached_in 0
      pub rest : (x : ℕ) → (x ≢ (φ j).depth) → rank_of c x ≡ rank_of (C (cond reached reached_in m) k q) x

-- in each round up to m the claims of the nodes inside j are supported, where j has the set of the round and the binders further out those of β
abbrev pub RoundsOf : Meaning → (Guard → ℕ → Bool) → (ℕ → Node) → ℕ → (ℕ → ℕ → ℕ) → ℕ → (ℕ → ℕ → Bool) → (ℕ → Claims) → ℕ → Type 0
RoundsOf S accepts φ n scope j β C m = (i : ℕ) → i ≤ m → AllSupportedGiven S accepts φ j (with_set β j (set_in φ j C i)) (C i) (Inside φ n scope j)

-- the round m changes the set of j no more
abbrev pub Settled : Meaning → (ℕ → Node) → ℕ → (ℕ → Claims) → ℕ → Type 0
Settled S φ j C m = (q : ℕ) → q < S.transitions.states → set_in φ j C (suc m) q ≡ set_in φ j C m q

-- the rounds up to m have ranks 0 at the place of j and before
abbrev pub RoundsBlank : Meaning → (ℕ → Node) → ℕ → (ℕ → ℕ → ℕ) → ℕ → (ℕ → Claims) → ℕ → Type 0
RoundsBlank S φ n scope j C m =
    (i k q x : ℕ) → i ≤ m → Inside φ n scope j k → q < S.transitions.states → x ≤ (φ j).depth → rank_of (C i k q) x ≡ 0

-- the claims M of the nodes inside j are the merged claims of the rounds up to m
abbrev pub MergedRounds : Meaning → (ℕ → Node) → ℕ → (ℕ → ℕ → ℕ) → ℕ → (ℕ → Claims) → ℕ → Claims → Type 0
MergedRounds S φ n scope j C m M = (k q : ℕ) → Inside φ n scope j k → q < S.transitions.states → Merged φ j C m k q (M k q)

-- in the rounds of a binder, what has its accumulating side keeps it
abbrev pub RoundsGrow : Type 0
RoundsGrow = (S : Meaning) (accepts : Guard → ℕ → Bool) (φ : ℕ → Node) (n : ℕ) (scope : ℕ → ℕ → ℕ) (j : ℕ) (β : ℕ → ℕ → Bool) (C : ℕ → Claims) (m : ℕ)
    → Lawful S → Laid φ n scope → j < n → IsBinder (form φ j) → RoundsOf S accepts φ n scope j β C m
    → (i k q : ℕ) → i < m → Inside φ n scope j k → q < S.transitions.states
    → (C i k q).holds ≡ accumulates φ j k → (C (suc i) k q).holds ≡ accumulates φ j k

-- the merged claims of a binder's rounds are supported, where only the binders further out have given sets
abbrev pub RoundsMerge : Type 0
RoundsMerge = (S : Meaning) (accepts : Guard → ℕ → Bool) (φ : ℕ → Node) (n : ℕ) (scope : ℕ → ℕ → ℕ) (j : ℕ) (β : ℕ → ℕ → Bool) (C : ℕ → Claims) (m : ℕ)
    (M : Claims) → Lawful S → Laid φ n scope → j < n → IsBinder (form φ j) → RoundsOf S accepts φ n scope j β C m → Settled S φ j C m
    → RoundsBlank S φ n scope j C m → MergedRounds S φ n scope j C m M → AllSupportedGiven S accepts φ (suc j) β M (Inside φ n scope j)
