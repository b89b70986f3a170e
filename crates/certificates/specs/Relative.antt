-- Support of the claims of some nodes, where the sets of the binders from a number on are given. Assumes nothing.
use Rattle.std.specs.Prelude.{◌≡◌, ℕ, ◌<◌, Bool, ◌↔◌, nat_lt}
use Rattle.systems.specs.Meaning.{Meaning}
use Rattle.logic.specs.Guards.{Guard}
use Rattle.logic.specs.declared.nodes.Kind.{Kind}
use Rattle.logic.specs.declared.nodes.Node.{Node}
use Rattle.logic.specs.Unfolding.{Agree, unfolds}
use Rattle.logic.specs.Holding.{Manner, direct, bound, fixed, binds, choose}
use Rattle.logic.specs.Laid.{under, form, Laid}
use Rattle.certificates.specs.Ranks.{Claims}
use Rattle.certificates.specs.Support.{PartCounts, AgainCounts, AllSupported}

module _ (S : Meaning) (accepts : Guard → ℕ → Bool) where
  -- a node of the kind K, unfolded at q, has the side s: yes, if its unfolding is true where only that counts as true of which `part` and `again`
  -- hold; no, if its unfolding is false where only that counts as false of which they hold
  abbrev pub HasSide : Bool → Kind → (Bool → ℕ → ℕ → Type 0) → (ℕ → Type 0) → ℕ → Type 0
  HasSide s K part again q = Agree s (unfolds S accepts K (λ p k r. Agree s (part p k r)) (λ r. Agree s (again r)) q)

module _ (φ : ℕ → Node) (hi : ℕ) (β : ℕ → ℕ → Bool) (C : Claims) where
  -- for the claim of the node j at q, of the side s: what j comes back to at r counts as in a certificate, but the set of a binder with a number
  -- from hi on is that of β
  abbrev pub AgainGiven : ℕ → ℕ → Bool → Manner → ℕ → Type 0
  AgainGiven j q s direct r = AgainCounts φ C j q s direct r
  AgainGiven j q s (bound b) r = choose (nat_lt b hi) (AgainCounts φ C j q s (bound b) r) (β b r ≡ s)
  AgainGiven j q s (fixed w) r = AgainCounts φ C j q s (fixed w) r
  AgainGiven j q s (binds w a) r = AgainCounts φ C j q s (binds w a) r

module _ (S : Meaning) (accepts : Guard → ℕ → Bool) (φ : ℕ → Node) (hi : ℕ) (β : ℕ → ℕ → Bool) (C : Claims) where
  -- as the claims of a certificate are, under a `not` with the other side
  abbrev pub SupportedGivenAs : Bool → ℕ → ℕ → Type 0
  SupportedGivenAs s j q = HasSide S accepts s (φ j).kind (λ p k r. PartCounts φ C j q (under s p) k r) (AgainGiven φ hi β C j q s (form φ j)) q

  -- the claim of the node j at q is supported, where the sets of the binders from hi on are those of β
  abbrev pub SupportedGiven : ℕ → ℕ → Type 0
  SupportedGiven j q = SupportedGivenAs (C j q).holds j q

  -- every claim of the nodes in D is supported so
  abbrev pub AllSupportedGiven : (ℕ → Type 0) → Type 0
  AllSupportedGiven D = (j q : ℕ) → D j → q < S.transitions.states → SupportedGiven j q

-- every claim of the nodes of a formula is supported so, whatever is given, exactly if the certificate is supported
abbrev pub WholeIsRelative : Type 0
WholeIsRelative = (S : Meaning) (accepts : Guard → ℕ → Bool) (φ : ℕ → Node) (n : ℕ) (scope : ℕ → ℕ → ℕ) (β : ℕ → ℕ → Bool) (C : Claims) → Laid φ n scope
    → AllSupported S accepts φ C n ↔ AllSupportedGiven S accepts φ n β C (λ j. j < n)
