-- What a certificate is worth of which every claim is supported. Assumes nothing.
use Rattle.std.specs.Prelude.{◌≡◌, ℕ, suc, ◌<◌, Bool, true, false, T, ◌↔◌, List}
use Rattle.systems.specs.Meaning.{Meaning, Lawful}
use Rattle.logic.specs.Guards.{Guard}
use Rattle.logic.specs.declared.nodes.Node.{Node}
use Rattle.logic.specs.Holding.{Holds}
use Rattle.logic.specs.Laid.{IsBinder, form, Laid}
use Rattle.certificates.specs.declared.claim.Claim.{Claim}
use Rattle.certificates.specs.Ranks.{Claims, claims_in}
use Rattle.certificates.specs.Support.{AllSupported}

-- the side says that P holds, or that it fails, and is right
pub record Tells (side : Bool) (P : Type 0) : Type 0 where
  pub holds : (side ≡ true) ↔ P
  pub fails : (side ≡ false) ↔ (P → ⊥)

module _ (S : Meaning) (accepts : Guard → ℕ → Bool) (φ : ℕ → Node) where
  -- the node j holds at q, with each variable at the set that β gives its binder
  abbrev pub HoldsWith : (ℕ → ℕ → Bool) → ℕ → ℕ → Type 0
  HoldsWith β j q = Holds S accepts (λ k. (φ k).kind) j (λ b r. T (β b r)) q

  -- the node j holds at q, with nothing assigned
  abbrev pub HoldsAlone : ℕ → ℕ → Type 0
  HoldsAlone j q = Holds S accepts (λ k. (φ k).kind) j (λ b r. ⊥) q

  -- final sets: each binder among the first n nodes has the set of the states where it holds, with all variables at these sets
  abbrev pub Final : ℕ → (ℕ → ℕ → Bool) → Type 0
  Final n β = (b q : ℕ) → b < n → IsBinder (form φ b) → q < S.transitions.states → T (β b q) ↔ HoldsWith β b q

  -- two assignments are the same at the binders among the first n nodes, in every state
  abbrev pub SameSets : ℕ → (ℕ → ℕ → Bool) → (ℕ → ℕ → Bool) → Type 0
  SameSets n β γ = (b q : ℕ) → b < n → IsBinder (form φ b) → q < S.transitions.states → β b q ≡ γ b q

  -- a certificate of a formula of n + 1 nodes is right
  pub record Right (n : ℕ) (C : Claims) : Type 0 where
    -- there are final sets, and no others
    pub sets : ℕ → ℕ → Bool
    pub final : Final (suc n) sets
    pub alone : (γ : ℕ → ℕ → Bool) → Final (suc n) γ → SameSets (suc n) γ sets
    -- with these, each claim tells whether its node holds at its state
    pub parts : (j q : ℕ) → j < suc n → q < S.transitions.states → Tells (C j q).holds (HoldsWith sets j q)
    -- at the root with nothing assigned
    pub root : (q : ℕ) → q < S.transitions.states → Tells (C n q).holds (HoldsAlone n q)

  -- two certificates have the same sides everywhere
  abbrev pub SameSides : ℕ → Claims → Claims → Type 0
  SameSides n C D = (j q : ℕ) → j < n → q < S.transitions.states → (C j q).holds ≡ (D j q).holds

-- for every system that keeps the law, every formula that is laid out, with the root outside all binders, and every list of claims of which each
-- is supported: the certificate is right
abbrev pub SupportedIsRight : Type 0
SupportedIsRight = (S : Meaning) (accepts : Guard → ℕ → Bool) (φ : ℕ → Node) (n : ℕ) (scope : ℕ → ℕ → ℕ) (list : List Claim)
    → Lawful S → Laid φ (suc n) scope → (φ n).depth ≡ 0
    → AllSupported S accepts φ (claims_in list S.transitions.states) (suc n)
    → Right S accepts φ n (claims_in list S.transitions.states)

-- two such certificates of one formula have the same sides everywhere
abbrev pub SupportedAgree : Type 0
SupportedAgree = (S : Meaning) (accepts : Guard → ℕ → Bool) (φ : ℕ → Node) (n : ℕ) (scope : ℕ → ℕ → ℕ) (list other : List Claim)
    → Lawful S → Laid φ (suc n) scope → (φ n).depth ≡ 0
    → AllSupported S accepts φ (claims_in list S.transitions.states) (suc n)
    → AllSupported S accepts φ (claims_in other S.transitions.states) (suc n)
    → SameSides S accepts φ (suc n) (claims_in list S.transitions.states) (claims_in other S.transitions.states)
