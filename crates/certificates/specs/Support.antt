-- When a claim is supported by other claims. Assumes nothing.
use Rattle.std.specs.Prelude.{◌≡◌, ℕ, suc, ◌<◌, Bool, true, false, not}
use Rattle.systems.specs.Meaning.{Meaning}
use Rattle.logic.specs.Guards.{Guard}
use Rattle.logic.specs.declared.nodes.Node.{Node}
use Rattle.logic.specs.Unfolding.{unfolds}
use Rattle.logic.specs.Holding.{Manner, direct, bound, fixed, binds}
use Rattle.logic.specs.Laid.{form, side_of, body_of}
use Rattle.certificates.specs.Ranks.{Earlier, NotLater, rank_of, Claims}

-- whether two sides are one
abbrev pub same_side : Bool → Bool → Bool
same_side true s = s
same_side false s = not s

-- how a claim passes that a fixed point of the depth d comes back to: strictly earlier in d + 1 places on the side on which the fixed point
-- accumulates (yes for EF, the untils and min, no for AG and max), not later in d places on the other side
abbrev pub Passes : Bool → ℕ → (ℕ → ℕ) → (ℕ → ℕ) → Type 0
Passes true d r s = Earlier (suc d) r s
Passes false d r s = NotLater d r s

module _ (φ : ℕ → Node) (C : Claims) where
  -- for the claim of the node j at q: the claim of its part k at r has the side t and passes, not later in as many places as j is deep
  abbrev pub PartCounts : ℕ → ℕ → Bool → ℕ → ℕ → Type 0
  PartCounts j q t k r = ((C k r).holds ≡ t) × NotLater (φ j).depth (rank_of (C k r)) (rank_of (C j q))

  -- for the claim of the node j at q, of the side s: what j comes back to at r has the side s and passes; a fixed point comes back to itself, a
  -- variable to the body of its binder
  abbrev pub AgainCounts : ℕ → ℕ → Bool → Manner → ℕ → Type 0
  AgainCounts j q s direct r = ⊥
  AgainCounts j q s (bound b) r =
      ((C (body_of (form φ b)) r).holds ≡ s) × Passes (same_side s (side_of (form φ b))) (φ b).depth (rank_of (C (body_of (form φ b)) r)) (rank_of (C j q))
  AgainCounts j q s (fixed w) r = ((C j r).holds ≡ s) × Passes (same_side s w) (φ j).depth (rank_of (C j r)) (rank_of (C j q))
  AgainCounts j q s (binds w a) r = ⊥

module _ (S : Meaning) (accepts : Guard → ℕ → Bool) (φ : ℕ → Node) (C : Claims) where
  -- a yes is supported if its unfolding is true when a part counts as holding only where its claim is yes and passes; a no, if its unfolding is
  -- false when a part counts as failing only where its claim is no and passes; under a `not` the part's claim has the other side
  abbrev pub SupportedAs : Bool → ℕ → ℕ → Type 0
  SupportedAs true j q = unfolds S accepts (φ j).kind (λ p k r. PartCounts φ C j q p k r) (λ r. AgainCounts φ C j q true (form φ j) r) q
  SupportedAs false j q =
      unfolds S accepts (φ j).kind (λ p k r. PartCounts φ C j q (not p) k r → ⊥) (λ r. AgainCounts φ C j q false (form φ j) r → ⊥) q → ⊥

  -- the claim of the node j at q is supported
  abbrev pub Supported : ℕ → ℕ → Type 0
  Supported j q = SupportedAs (C j q).holds j q

  -- every claim of the first n nodes is supported
  abbrev pub AllSupported : ℕ → Type 0
  AllSupported n = (j q : ℕ) → j < n → q < S.transitions.states → Supported j q
