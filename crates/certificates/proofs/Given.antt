-- What relative support reads. Assumes nothing.
use Rattle.std.proofs.Common.{◌≡◌, ℕ, ◌<◌, Bool, true, false, cond, T, ltb, ◌∙◌, subst}
use Rattle.std.proofs.lemmas.Bool.{lt-ltb}
use Rattle.systems.specs.Meaning.{Meaning, Lawful}
use Rattle.logic.specs.Guards.{Guard}
use Rattle.logic.specs.declared.nodes.Node.{Node}
use Rattle.logic.specs.Unfolding.{Agree}
use Rattle.logic.specs.Holding.{choose, Part}
use Rattle.logic.specs.Laid.{under, IsBinder, side_of, body_of, form}
use Rattle.certificates.specs.Ranks.{NotLater, rank_of, Claims}
use Rattle.certificates.specs.Support.{same_side, Passes, PartCounts}
use Rattle.certificates.specs.Relative.{AgainGiven, SupportedGivenAs}
use Rattle.certificates.proofs.Sides.{under_true, side_right, side_is}
use Rattle.certificates.proofs.Places.{passes_trans}
use Rattle.certificates.proofs.Table.{size, support_mono, body_gives}

-- the claim of the body of b at q has the side t and passes for ranks R
abbrev pub BodyPasses : (ℕ → Node) → Claims → Bool → (ℕ → ℕ) → ℕ → ℕ → Type 0
BodyPasses φ C t R b q =
    ((C (body_of (form φ b)) q).holds ≡ t) × Passes (same_side t (side_of (form φ b))) (φ b).depth (rank_of (C (body_of (form φ b)) q)) R

-- the set of b has the side t at q: by a claim that passes for ranks R, or as given
abbrev pub Back : (ℕ → Node) → ℕ → (ℕ → ℕ → Bool) → Claims → Bool → (ℕ → ℕ) → ℕ → ℕ → Type 0
Back φ hi β C t R b q = choose (ltb b hi) (BodyPasses φ C t R b q) (β b q ≡ t)

-- the set of b: as the claims of its body tell, or as given
abbrev pub set_of : (ℕ → Node) → ℕ → (ℕ → ℕ → Bool) → Claims → ℕ → ℕ → Bool
set_of φ hi β C b q = cond (ltb b hi) (C (body_of (form φ b)) q).holds (β b q)

module _ (φ : ℕ → Node) (hi : ℕ) (β : ℕ → ℕ → Bool) (C : Claims) (t : Bool) (b q : ℕ) where
  pub back_set : (R : ℕ → ℕ) → Back φ hi β C t R b q → set_of φ hi β C b q ≡ t
  back_set R = go (ltb b hi)
    where
      go : (v : Bool) → choose v (BodyPasses φ C t R b q) (β b q ≡ t) → cond v (C (body_of (form φ b)) q).holds (β b q) ≡ t
      go true h = h.0
      go false h = h

  pub back_trans : (r R : ℕ → ℕ) (x : ℕ) → (φ b).depth < x → NotLater x r R → Back φ hi β C t r b q → Back φ hi β C t R b q
  back_trans r R x l u = go (ltb b hi)
    where
      go : (v : Bool) → choose v (BodyPasses φ C t r b q) (β b q ≡ t) → choose v (BodyPasses φ C t R b q) (β b q ≡ t)
      go true h = (h.0, passes_trans (same_side t (side_of (form φ b))) (φ b).depth x (rank_of (C (body_of (form φ b)) q)) r R l u h.1)
      go false h = h

  pub back_body : (R : ℕ → ℕ) → b < hi → Back φ hi β C t R b q → BodyPasses φ C t R b q
  back_body R l = subst (λ v. choose v (BodyPasses φ C t R b q) (β b q ≡ t)) (lt-ltb b hi l)

-- a binder has the side of its body
pub body_side : (S : Meaning) (accepts : Guard → ℕ → Bool) (φ : ℕ → Node) (hi : ℕ) (β : ℕ → ℕ → Bool) (C : Claims) (s : Bool) (j q : ℕ) →
    IsBinder (form φ j) → SupportedGivenAs S accepts φ hi β C s j q → (C (body_of (form φ j)) q).holds ≡ s
body_side S accepts φ hi β C s j q ib sup = side_is (C a q).holds s (body_gives S accepts s (φ j).kind _ _ ib q (T (C a q).holds) sup tell)
  where
    a : ℕ
    a = body_of (form φ j)

    tell : PartCounts φ C j q (under s true) a q → Agree s (T (C a q).holds)
    tell g = side_right (C a q).holds s (g.0 ∙ under_true s)

-- a claim is supported by other claims, and with other sets given, where what counts goes on counting
pub supported_mono : (S : Meaning) (lawful : Lawful S) (accepts : Guard → ℕ → Bool) (φ : ℕ → Node) (hi hi' : ℕ) (β β' : ℕ → ℕ → Bool) (C C' : Claims)
    (s : Bool) (j q : ℕ) → q < size S →
    ((p : Bool) (k r : ℕ) → Part (φ j).kind k p → r < size S → PartCounts φ C j q (under s p) k r → PartCounts φ C' j q (under s p) k r) →
    ((r : ℕ) → r < size S → AgainGiven φ hi β C j q s (form φ j) r → AgainGiven φ hi' β' C' j q s (form φ j) r) →
    SupportedGivenAs S accepts φ hi β C s j q → SupportedGivenAs S accepts φ hi' β' C' s j q
supported_mono S lawful accepts φ hi hi' β β' C C' s j q l f g =
    support_mono S lawful accepts (φ j).kind (λ p k r. PartCounts φ C j q (under s p) k r) (AgainGiven φ hi β C j q s (form φ j))
    (λ p k r. PartCounts φ C' j q (under s p) k r) (AgainGiven φ hi' β' C' j q s (form φ j)) f g s q l
