-- A certificate of which every claim is supported is right, and any two have the same sides. Assumes nothing.
use Rattle.std.proofs.Common.{◌≡◌, ℕ, zero, suc, ◌<◌, Bool, true, false, cond, T, ◌↔◌, sym, refl, ap, ◌∙◌, subst, arith}
use Rattle.std.proofs.lemmas.Bool.{lt-ltb, true≢false, false≢true}
use Rattle.systems.specs.Meaning.{Meaning, Lawful}
use Rattle.logic.specs.Guards.{Guard}
use Rattle.logic.specs.declared.nodes.Node.{Node}
use Rattle.logic.specs.Unfolding.{Agree}
use Rattle.logic.specs.Holding.{Assignment, Holds}
use Rattle.logic.specs.Laid.{IsBinder, body_of, form, Laid}
use Rattle.certificates.specs.Ranks.{Claims, claims_in}
use Rattle.certificates.specs.Support.{AllSupported}
use Rattle.certificates.specs.Relative.{AllSupportedGiven}
use Rattle.certificates.specs.Right.{Tells, HoldsWith, HoldsAlone, Final, SameSets, Right, SameSides, SupportedIsRight, SupportedAgree}
use Rattle.certificates.proofs.Sides.{side_right, one_side}
use Rattle.certificates.proofs.Table.{size}
use Rattle.certificates.proofs.Free.{Occurs, Formed}
use Rattle.certificates.proofs.Given.{set_of, body_side}
use Rattle.certificates.proofs.Within.{right_given}
use Rattle.certificates.proofs.Nesting.{laid_formed, laid_closed}
use Rattle.certificates.proofs.Whole.{all_whole, whole_given}

-- a side that is right tells, and what tells whether a test holds is the test
agree_tells : (s : Bool) (P : Type 0) → Agree s P → Tells s P
agree_tells true P h = record { holds = (λ _. h, λ _. refl); fails = (λ e. absurd (true≢false e), λ f. absurd (f h)) }
agree_tells false P h = record { holds = (λ e. absurd (false≢true e), λ p. absurd (h p)); fails = (λ _. h, λ _. refl) }

side_iff : (s : Bool) (P : Type 0) → Agree s P → T s ↔ P
side_iff true P h = (λ _. h, λ _. tt)
side_iff false P h = (λ t. absurd t, λ p. h p)

iff_side : (s : Bool) (P : Type 0) → T s ↔ P → Agree s P
iff_side true P h = h.0 tt
iff_side false P h = h.1

module _ (S : Meaning) (lawful : Lawful S) (accepts : Guard → ℕ → Bool) (φ : ℕ → Node) (n : ℕ) (formed : Formed φ n)
    (C : Claims) (supported : AllSupported S accepts φ C n) where
  -- the sets that the certificate claims
  abbrev claimed : ℕ → ℕ → Bool
  claimed b q = (C (body_of (form φ b)) q).holds

  given_all : AllSupportedGiven S accepts φ n claimed C (λ j. j < n)
  given_all = whole_given φ n formed S accepts claimed C supported

  -- a claim is right for sets that are as claimed for the variables in its node
  right_for : (ρ : Assignment) (j q : ℕ) → j < n → q < size S → ((b : ℕ) (p : Bool) → Occurs φ j b p → (r : ℕ) → r < size S → Agree (claimed b r) (ρ b r)) →
      Agree (C j q).holds (Holds S accepts (λ k. (φ k).kind) j ρ q)
  right_for ρ j q jn l h =
      right_given S lawful accepts φ n formed n (λ k. k < n) (all_whole φ n formed) claimed C given_all j q jn l (C j q).holds refl ρ
      (λ b p occ r lr e. subst (λ t. Agree t (ρ b r)) (sym (own b p occ r) ∙ e) (h b p occ r lr))
    where
      own : (b : ℕ) (p : Bool) → Occurs φ j b p → (r : ℕ) → set_of φ n claimed C b r ≡ claimed b r
      own b p occ r = ap (λ v. cond v (claimed b r) (claimed b r)) (lt-ltb b n (formed.scoped j b p jn occ).0)

  right_claimed : (j q : ℕ) → j < n → q < size S → Agree (C j q).holds (HoldsWith S accepts φ claimed j q)
  right_claimed j q jn l = right_for (λ b r. T (claimed b r)) j q jn l (λ b p occ r lr. side_right (claimed b r) (claimed b r) refl)

  binder_side : (b q : ℕ) → b < n → IsBinder (form φ b) → q < size S → claimed b q ≡ (C b q).holds
  binder_side b q bn ib l = body_side S accepts φ n claimed C (C b q).holds b q ib (given_all b q bn l)

  claimed_final : Final S accepts φ n claimed
  claimed_final b q bn ib l =
      side_iff (claimed b q) (HoldsWith S accepts φ claimed b q)
      (subst (λ s. Agree s (HoldsWith S accepts φ claimed b q)) (sym (binder_side b q bn ib l)) (right_claimed b q bn l))

  -- a final assignment is as claimed: at a binder, if it is at the binders around
  module _ (γ : ℕ → ℕ → Bool) (final : Final S accepts φ n γ) where
    abbrev SameAt : ℕ → Type 0
    SameAt b = (q : ℕ) → q < size S → γ b q ≡ claimed b q

    same_at : (b : ℕ) → b < n → IsBinder (form φ b) → ((c : ℕ) (p : Bool) → Occurs φ b c p → SameAt c) → SameAt b
    same_at b bn ib h q l = one_side (γ b q) (C b q).holds (HoldsWith S accepts φ γ b q) told found ∙ sym (binder_side b q bn ib l)
      where
        told : Agree (γ b q) (HoldsWith S accepts φ γ b q)
        told = iff_side (γ b q) (HoldsWith S accepts φ γ b q) (final b q bn ib l)

        found : Agree (C b q).holds (HoldsWith S accepts φ γ b q)
        found = right_for (λ c r. T (γ c r)) b q bn l (λ c p occ r lr. side_right (γ c r) (claimed c r) (h c p occ r lr))

    same_below : (d b : ℕ) → (φ b).depth < d → b < n → IsBinder (form φ b) → SameAt b
    same_below zero b h bn ib = absurd (omega arith)
    same_below (suc d) b h bn ib =
        same_at b bn ib (λ c p occ. let sc = formed.scoped b c p bn occ in same_below d c (omega (arith, sc.2)) sc.0 sc.1)

    claimed_alone : SameSets S accepts φ n γ claimed
    claimed_alone b q bn ib l = same_below (suc (φ b).depth) b (omega arith) bn ib q l

-- a certificate is right, whatever its claims are read from
right_of : (S : Meaning) (accepts : Guard → ℕ → Bool) (φ : ℕ → Node) (n : ℕ) (scope : ℕ → ℕ → ℕ) (C : Claims) →
    Lawful S → Laid φ (suc n) scope → (φ n).depth ≡ 0 → AllSupported S accepts φ C (suc n) → Right S accepts φ n C
right_of S accepts φ n scope C lawful laid root supported = record {
  sets = claimed S lawful accepts φ (suc n) formed C supported;
  final = claimed_final S lawful accepts φ (suc n) formed C supported;
  alone = claimed_alone S lawful accepts φ (suc n) formed C supported;
  parts = λ j q jn l. agree_tells (C j q).holds _ (right_claimed S lawful accepts φ (suc n) formed C supported j q jn l);
  root = λ q l. agree_tells (C n q).holds _ (at_root q l);
}
  where
    formed : Formed φ (suc n)
    formed = laid_formed φ (suc n) scope laid

    at_root : (q : ℕ) → q < size S → Agree (C n q).holds (HoldsAlone S accepts φ n q)
    at_root q l = right_for S lawful accepts φ (suc n) formed C supported (λ b r. ⊥) n q (omega arith) l
        (λ b p occ. absurd (laid_closed φ (suc n) scope laid n (omega arith) root b p occ))

pub right : SupportedIsRight
right S accepts φ n scope list = right_of S accepts φ n scope (claims_in list S.transitions.states)

-- the final sets are the same, and with them the sides
module _ (S : Meaning) (lawful : Lawful S) (accepts : Guard → ℕ → Bool) (φ : ℕ → Node) (n : ℕ) (formed : Formed φ n) (C D : Claims)
    (supportedC : AllSupported S accepts φ C n) (supportedD : AllSupported S accepts φ D n) where
  abbrev sets : ℕ → ℕ → Bool
  sets = claimed S lawful accepts φ n formed C supportedC

  same_sets : SameSets S accepts φ n sets (claimed S lawful accepts φ n formed D supportedD)
  same_sets = claimed_alone S lawful accepts φ n formed D supportedD sets (claimed_final S lawful accepts φ n formed C supportedC)

  same_sides : SameSides S accepts φ n C D
  same_sides j q jn l = one_side (C j q).holds (D j q).holds (HoldsWith S accepts φ sets j q) one other
    where
      one : Agree (C j q).holds (HoldsWith S accepts φ sets j q)
      one = right_claimed S lawful accepts φ n formed C supportedC j q jn l

      other : Agree (D j q).holds (HoldsWith S accepts φ sets j q)
      other = right_for S lawful accepts φ n formed D supportedD (λ b r. T (sets b r)) j q jn l
          (λ b p occ r lr. let sc = formed.scoped j b p jn occ in side_right (sets b r) (D (body_of (form φ b)) r).holds (same_sets b r sc.0 sc.1 lr))

pub agree : SupportedAgree
agree S accepts φ n scope list other lawful laid root = same_sides S lawful accepts φ (suc n) (laid_formed φ (suc n) scope laid)
    (claims_in list S.transitions.states) (claims_in other S.transitions.states)
