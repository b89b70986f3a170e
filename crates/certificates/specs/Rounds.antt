-- The claims of a node, as they are found from those of its parts. Assumes nothing.
use Rattle.std.specs.Prelude.{◌≡◌, ℕ, suc, ◌<◌, ◌≤◌, Bool, cond, not, T}
use Rattle.systems.specs.Meaning.{Meaning, Lawful}
use Rattle.logic.specs.Guards.{Guard}
use Rattle.logic.specs.declared.nodes.Kind.{Kind}
use Rattle.logic.specs.declared.nodes.Kind.TheVariants.{Variable}
use Rattle.logic.specs.declared.nodes.Node.{Node}
use Rattle.logic.specs.Unfolding.{Agree, unfolds}
use Rattle.logic.specs.Holding.{direct, fixed, Part}
use Rattle.logic.specs.Laid.{IsBinder, body_of, form}
use Rattle.certificates.specs.declared.claim.Claim.{Claim}
use Rattle.certificates.specs.Ranks.{rank_of, Claims}
use Rattle.certificates.specs.Support.{same_side}
use Rattle.certificates.specs.Relative.{SupportedGiven}
use Rattle.certificates.specs.Merging.{first_since}

module _ (S : Meaning) (accepts : Guard → ℕ → Bool) where
  -- one unfolding of the kind K at q, where the parts have the sides of `side` and what the node comes back to is in X
  abbrev pub Once : Kind → (ℕ → ℕ → Bool) → (ℕ → Bool) → ℕ → Type 0
  Once K side X q = unfolds S accepts K (λ p k r. Agree p (T (side k r))) (λ r. T (X r)) q

  -- the rounds of a fixed point of the kind K that accumulates on the side w: the set of the round 0 is empty if w is true, all states if w is false,
  -- and each round up to m unfolds once
  pub record OwnRounds (K : Kind) (side : ℕ → ℕ → Bool) (w : Bool) (X : ℕ → ℕ → Bool) (m : ℕ) : Type 0 where
    pub begins : (q : ℕ) → q < S.transitions.states → X 0 q ≡ not w
    pub turns : (i q : ℕ) → i ≤ m → q < S.transitions.states → Agree (X (suc i) q) (Once K side (X i) q)

-- the ranks of the parts of j are 0 before the place of j
abbrev pub PartsBlank : Meaning → (ℕ → Node) → Claims → ℕ → Type 0
PartsBlank S φ C j = (k r x : ℕ) (p : Bool) → Part (φ j).kind k p → r < S.transitions.states → x < (φ j).depth → rank_of (C k r) x ≡ 0

-- the claim of a fixed point at q after the rounds up to m: on the side w, its rank at the place d is the first round since which q is on that side;
-- on the other side it is 0
pub record OwnClaim (d : ℕ) (w : Bool) (X : ℕ → ℕ → Bool) (m q : ℕ) (c : Claim) : Type 0 where
  pub side : c.holds ≡ X m q
  pub place : rank_of c d ≡ cond (same_side (X m q) w) (first_since (λ i. X i q) w m) 0
  pub before : (x : ℕ) → x < d → rank_of c x ≡ 0

-- the rounds of a fixed point only grow, on the side on which it accumulates
abbrev pub OwnRoundsGrow : Type 0
OwnRoundsGrow = (S : Meaning) (accepts : Guard → ℕ → Bool) (K : Kind) (side : ℕ → ℕ → Bool) (w : Bool) (X : ℕ → ℕ → Bool) (m : ℕ)
    → Lawful S → OwnRounds S accepts K side w X m → (i q : ℕ) → i ≤ m → q < S.transitions.states → X i q ≡ w → X (suc i) q ≡ w

-- sets of N states that only grow stop within N rounds
abbrev pub GrowthStops : Type 0
GrowthStops = (N : ℕ) (w : Bool) (X : ℕ → ℕ → Bool) → ((i q : ℕ) → i ≤ N → q < N → X i q ≡ w → X (suc i) q ≡ w)
    → (m : ℕ) × (m ≤ N) × ((q : ℕ) → q < N → X (suc m) q ≡ X m q)

-- EF, AG and the untils: their claims are supported after rounds of which the last changes nothing
abbrev pub FixedSupported : Type 0
FixedSupported = (S : Meaning) (accepts : Guard → ℕ → Bool) (φ : ℕ → Node) (hi : ℕ) (β : ℕ → ℕ → Bool) (C : Claims) (j : ℕ)
    (w : Bool) (X : ℕ → ℕ → Bool) (m : ℕ) → Lawful S → form φ j ≡ fixed w → PartsBlank S φ C j → OwnRounds S accepts (φ j).kind (λ k r. (C k r).holds) w X m
    → ((q : ℕ) → q < S.transitions.states → X (suc m) q ≡ X m q)
    → ((q : ℕ) → q < S.transitions.states → OwnClaim (φ j).depth w X m q (C j q))
    → (q : ℕ) → q < S.transitions.states → SupportedGiven S accepts φ hi β C j q

-- a direct kind: a claim with the side of one unfolding is supported; the set X is not read
abbrev pub DirectSupported : Type 0
DirectSupported = (S : Meaning) (accepts : Guard → ℕ → Bool) (φ : ℕ → Node) (hi : ℕ) (β : ℕ → ℕ → Bool) (C : Claims) (j q : ℕ) (X : ℕ → Bool)
    → Lawful S → form φ j ≡ direct → PartsBlank S φ C j → q < S.transitions.states
    → Agree (C j q).holds (Once S accepts (φ j).kind (λ k r. (C k r).holds) X q) → SupportedGiven S accepts φ hi β C j q

-- a variable whose binder has a given set: a claim as given is supported
abbrev pub VariableSupported : Type 0
VariableSupported = (S : Meaning) (accepts : Guard → ℕ → Bool) (φ : ℕ → Node) (hi : ℕ) (β : ℕ → ℕ → Bool) (C : Claims) (j q b : ℕ)
    → (φ j).kind ≡ Variable b → hi ≤ b → (C j q).holds ≡ β b q → SupportedGiven S accepts φ hi β C j q

-- a binder: a claim with the side of its body is supported
abbrev pub BinderSupported : Type 0
BinderSupported = (S : Meaning) (accepts : Guard → ℕ → Bool) (φ : ℕ → Node) (hi : ℕ) (β : ℕ → ℕ → Bool) (C : Claims) (j q : ℕ)
    → IsBinder (form φ j) → PartsBlank S φ C j → q < S.transitions.states
    → (C (body_of (form φ j)) q).holds ≡ (C j q).holds → SupportedGiven S accepts φ hi β C j q
