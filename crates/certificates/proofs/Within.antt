-- Supported claims are right, for some nodes and given sets of the binders around them. Assumes nothing.
use Rattle.std.proofs.Common.{◌≡◌, ℕ, zero, suc, ◌<◌, ◌≤◌, Bool, true, false, eqb, sym, refl, ap, ◌∙◌, subst, inr, arith}
use Rattle.std.proofs.lemmas.Bool.{eqb-true, eqb-false}
use Rattle.systems.specs.Meaning.{Meaning, Lawful}
use Rattle.logic.specs.Guards.{Guard}
use Rattle.logic.specs.declared.nodes.Node.{Node}
use Rattle.logic.specs.Unfolding.{Agree, unfolds}
use Rattle.logic.specs.Holding.{Manner, direct, bound, fixed, binds, Fix, Assignment, choose, assign, line, holds_in, Holds, Part}
use Rattle.logic.specs.Laid.{under, IsBinder, side_of, body_of, form}
use Rattle.logic.proofs.Lines.{body_part}
use Rattle.certificates.specs.Ranks.{NotLater, rank_of, Claims}
use Rattle.certificates.specs.Support.{same_side, Passes, PartCounts}
use Rattle.certificates.specs.Relative.{HasSide, AgainGiven, SupportedGivenAs, AllSupportedGiven}
use Rattle.certificates.proofs.Sides.{under_true, under_assoc}
use Rattle.certificates.proofs.Places.{not_later_trans, passes_not_later}
use Rattle.certificates.proofs.Spelled.{spells, earlier_spells, base_above}
use Rattle.certificates.proofs.Table.{size, unfold_agree, body_gives}
use Rattle.certificates.proofs.Iterates.{Falls, iterates}
use Rattle.certificates.proofs.Free.{Occurs, here, inside, Formed, deeper_not, Whole}
use Rattle.certificates.proofs.Given.{BodyPasses, Back, set_of, back_set, back_trans, back_body}

module _ (S : Meaning) (φ : ℕ → Node) (hi : ℕ) (β : ℕ → ℕ → Bool) (C : Claims) where
  -- what is known of the set of a binder b, for claims of side t whose ranks pass for R
  abbrev FitsAt : Bool → (ℕ → ℕ) → Assignment → ℕ → Type 0
  FitsAt t R ρ b = (q : ℕ) → q < size S → Back φ hi β C t R b q → Agree t (ρ b q)

  -- the sets of the variables that occur in j fit
  abbrev Fits : Bool → ℕ → (ℕ → ℕ) → Assignment → Type 0
  Fits s j R ρ = (b : ℕ) (p : Bool) → Occurs φ j b p → FitsAt (under s p) R ρ b

  -- the claims of the nodes below m are right for U
  abbrev RightFor : (ℕ → Type 0) → (ℕ → Assignment → ℕ → Type 0) → ℕ → Type 1
  RightFor D U m = (k : ℕ) → k < m → D k → (s : Bool) (R : ℕ → ℕ) (ρ : Assignment) → Fits s k R ρ →
      (q : ℕ) → q < size S → (C k q).holds ≡ s → NotLater (φ k).depth (rank_of (C k q)) R → Agree s (U k ρ q)

module _ (S : Meaning) (lawful : Lawful S) (accepts : Guard → ℕ → Bool) (φ : ℕ → Node) (n : ℕ) (formed : Formed φ n)
    (hi : ℕ) (D : ℕ → Type 0) (whole : Whole φ n hi D) (β : ℕ → ℕ → Bool) (C : Claims)
    (B : ℕ) (small : (k : ℕ) → D k → (q : ℕ) → q < size S → (x : ℕ) → rank_of (C k q) x < B) where
  -- the step to a node j
  module _ (U : ℕ → Assignment → ℕ → Type 0) (m : ℕ) (right : RightFor S φ hi β C D U m) (j : ℕ) (jm : j ≤ m) (dj : D j)
      (s : Bool) (R : ℕ → ℕ) (ρ : Assignment) (fits : Fits S φ hi β C s j R ρ) where
    abbrev d : ℕ
    d = (φ j).depth

    jn : j < n
    jn = whole.known j dj

    -- a claim of the side s that passes for R, and the number of its first places
    abbrev Known : ℕ → ℕ → Type 0
    Known k q = ((C k q).holds ≡ s) × NotLater d (rank_of (C k q)) R

    abbrev number : ℕ → ℕ → ℕ
    number k q = spells B (suc d) (rank_of (C k q))

    -- the claims of j on the side s are supported, where j is of the manner o
    abbrev Backed : Manner → Type 0
    Backed o = (q : ℕ) → q < size S → (C j q).holds ≡ s →
        HasSide S accepts s (φ j).kind (λ p k r. PartCounts φ C j q (under s p) k r) (AgainGiven φ hi β C j q s o) q

    -- what passes for a known claim is known, and its number is smaller on the accumulating side
    passed : (k : ℕ) → D k → (v : Bool) (q r : ℕ) → r < size S → Known k q → Passes v d (rank_of (C k r)) (rank_of (C k q)) → NotLater d (rank_of (C k r)) R
    passed k dk v q r l c h = not_later_trans d (rank_of (C k r)) (rank_of (C k q)) R (passes_not_later v d (rank_of (C k r)) (rank_of (C k q)) h) c.1

    falls : (k : ℕ) → D k → (v : Bool) (q r : ℕ) → r < size S → Passes v d (rank_of (C k r)) (rank_of (C k q)) → Falls v (number k r) (number k q)
    falls k dk true q r l h = earlier_spells B (suc d) (rank_of (C k r)) (rank_of (C k q)) (small k dk r l) h
    falls k dk false q r l h = tt

    part_right : (IsBinder (form φ j) → ⊥) → (q : ℕ) → Known j q →
        (p : Bool) (k r : ℕ) → Part (φ j).kind k p → r < size S → PartCounts φ C j q (under s p) k r → Agree (under s p) (U k ρ r)
    part_right nb q c p k r o l h = right k (omega (arith, kj)) (whole.parts j k p dj o) (under s p) R ρ fits_part r l h.0
        (subst (λ e. NotLater e (rank_of (C k r)) R) (sym dk) up)
      where
        kj : k < j
        kj = formed.below j k p jn o

        dk : (φ k).depth ≡ d
        dk = formed.depths j k p jn o ∙ deeper_not (form φ j) d nb

        up : NotLater d (rank_of (C k r)) R
        up = not_later_trans d (rank_of (C k r)) (rank_of (C j q)) R h.1 c.1

        fits_part : Fits S φ hi β C (under s p) k R ρ
        fits_part b t occ = subst (λ v. FitsAt S φ hi β C v R ρ b) (under_assoc s p t) (fits b (under p t) (inside k p t o (λ ib _. nb ib) occ))

    -- one unfolding of j is right for a set X that is right for what j comes back to
    unfolded : (o : Manner) → form φ j ≡ o → (IsBinder o → ⊥) → Backed o → (X : ℕ → Type 0) (q : ℕ) → q < size S → Known j q →
        ((r : ℕ) → r < size S → AgainGiven φ hi β C j q s o r → Agree s (X r)) → Agree s (unfolds S accepts (φ j).kind (λ p k r. Agree p (U k ρ r)) X q)
    unfolded o f nb sup X q l c g =
        unfold_agree S lawful accepts (φ j).kind (λ p k r. PartCounts φ C j q (under s p) k r) (AgainGiven φ hi β C j q s o) (λ k r. U k ρ r) X s
        (part_right (subst (λ x. IsBinder x → ⊥) (sym f) nb) q c) g q l (sup q l c.0)

    bound_step : (b : ℕ) → form φ j ≡ bound b → Backed (bound b) → (q : ℕ) → q < size S → Known j q →
        Agree s (line S accepts (φ j).kind (bound b) j U ρ q)
    bound_step b f sup q l c = unfolded (bound b) f (λ x. x) sup (ρ b) q l c
        (λ r lr h. fit r lr (back_trans φ hi β C s b r (rank_of (C j q)) R d deep c.1 h))
      where
        fit : FitsAt S φ hi β C s R ρ b
        fit = subst (λ t. FitsAt S φ hi β C t R ρ b) (under_true s) (fits b true (here f))

        deep : (φ b).depth < d
        deep = (formed.scoped j b true jn (here f)).2

    fixed_step : (w : Bool) → form φ j ≡ fixed w → Backed (fixed w) → (q : ℕ) → q < size S → Known j q →
        Agree s (line S accepts (φ j).kind (fixed w) j U ρ q)
    fixed_step w f sup = iterates (size S) (unfolds S accepts (φ j).kind (λ p k r. Agree p (U k ρ r))) (Known j) (number j) s w
        (λ X q l c h. unfolded (fixed w) f (λ x. x) sup X q l c
        (λ r lr g. h r lr (g.0, passed j dj (same_side s w) q r lr c g.1) (falls j dj (same_side s w) q r lr g.1)))

    -- in the body a of the binder j
    module _ (w : Bool) (a : ℕ) (f : form φ j ≡ binds w a) where
      ib : IsBinder (form φ j)
      ib = subst IsBinder (sym f) tt

      o : Part (φ j).kind a true
      o = subst (λ x. Part (φ j).kind (body_of x) true) f (body_part (φ j).kind ib)

      da : D a
      da = whole.parts j a true dj o

      -- with a set X that is right for the claims of the body that pass for those at q
      module _ (X : ℕ → Type 0) (q : ℕ) (c : Known a q)
          (h : (r : ℕ) → r < size S → Known a r → Falls (same_side s w) (number a r) (number a q) → Agree s (X r)) where
        fits_own : (b : ℕ) → b ≡ j → (p : Bool) → Occurs φ a b p →
            (r : ℕ) → r < size S → Back φ hi β C (under s p) (rank_of (C a q)) b r → Agree (under s p) (X r)
        fits_own b e false occ r l bk =
            absurd (formed.monotone j jn ib (subst (λ x. Occurs φ x j false) (sym (ap body_of f)) (subst (λ x. Occurs φ a x false) e occ)))
        fits_own b e true occ r l bk =
            subst (λ t. Agree t (X r)) (sym (under_true s))
            (h r l (pass.0, passed a da (same_side s w) q r l c pass.1) (falls a da (same_side s w) q r l pass.1))
          where
            at_b : BodyPasses φ C (under s true) (rank_of (C a q)) b r
            at_b = back_body φ hi β C (under s true) b r (rank_of (C a q)) (subst (λ x. x < hi) (sym e) (whole.low j dj)) bk

            at_j : BodyPasses φ C s (rank_of (C a q)) j r
            at_j = subst (λ t. BodyPasses φ C t (rank_of (C a q)) j r) (under_true s) (subst (λ x. BodyPasses φ C (under s true) (rank_of (C a q)) x r) e at_b)

            pass : ((C a r).holds ≡ s) × Passes (same_side s w) d (rank_of (C a r)) (rank_of (C a q))
            pass = subst (λ x. ((C (body_of x) r).holds ≡ s) × Passes (same_side s (side_of x)) d (rank_of (C (body_of x) r)) (rank_of (C a q))) f at_j

        fits_other : (b : ℕ) → (b ≡ j → ⊥) → (p : Bool) → Occurs φ a b p → FitsAt S φ hi β C (under s p) (rank_of (C a q)) ρ b
        fits_other b ne p occ r l bk =
            let up : Occurs φ j b p = inside a true p o (λ _ e. ne e) occ in
            fits b p up r l (back_trans φ hi β C (under s p) b r (rank_of (C a q)) R d (formed.scoped j b p jn up).2 c.1 bk)

        fits_body : Fits S φ hi β C s a (rank_of (C a q)) (assign ρ j X)
        fits_body b p occ r l bk = go (eqb b j) refl
          where
            go : (v : Bool) → eqb b j ≡ v → Agree (under s p) (choose v (X r) (ρ b r))
            go true e = fits_own b (eqb-true b j e) p occ r l bk
            go false e = fits_other b (eqb-false b j e) p occ r l bk

        body_right : q < size S → Agree s (U a (assign ρ j X) q)
        body_right l =
            let aj : a < j = formed.below j a true jn o in
            right a (omega arith) da s (rank_of (C a q)) (assign ρ j X) fits_body q l c.0 (inr (λ _ _. refl))

      binds_step : Backed (binds w a) → (q : ℕ) → q < size S → Known j q → Agree s (line S accepts (φ j).kind (binds w a) j U ρ q)
      binds_step sup q l c = body_gives S accepts s (φ j).kind _ _ ib q _ (sup q l c.0) from_body
        where
          known : PartCounts φ C j q (under s true) a q → Known a q
          known g = (g.0 ∙ under_true s, not_later_trans d (rank_of (C a q)) (rank_of (C j q)) R g.1 c.1)

          from_body : PartCounts φ C j q (under s true) (body_of (form φ j)) q → Agree s (Fix w (λ X. U a (assign ρ j X)) q)
          from_body g = iterates (size S) (λ X. U a (assign ρ j X)) (Known a) (number a) s w (λ X r lr k h. body_right X r k h lr) q l
              (known (subst (λ x. PartCounts φ C j q (under s true) (body_of x) q) f g))

    step : (o : Manner) → form φ j ≡ o → Backed o → (q : ℕ) → q < size S → Known j q → Agree s (line S accepts (φ j).kind o j U ρ q)
    step direct f sup = λ q l c. unfolded direct f (λ x. x) sup (λ _. ⊥) q l c (λ r lr x. absurd x)
    step (bound b) f sup = bound_step b f sup
    step (fixed w) f sup = fixed_step w f sup
    step (binds w a) f sup = binds_step w a f sup

  main : AllSupportedGiven S accepts φ hi β C D → (m : ℕ) → RightFor S φ hi β C D (holds_in S accepts (λ k. (φ k).kind) m) m
  unfolding holds_in
  main supported zero j jm dj s R ρ fits q l sd u = absurd (omega arith)
  main supported (suc m) j jm dj s R ρ fits q l sd u =
      step (holds_in S accepts (λ k. (φ k).kind) m) m (main supported m) j (omega arith) dj s R ρ fits (form φ j) refl
      (λ r lr e. subst (λ t. SupportedGivenAs S accepts φ hi β C t j r) e (supported j r dj lr)) q l (sd, u)

module _ (S : Meaning) (lawful : Lawful S) (accepts : Guard → ℕ → Bool) (φ : ℕ → Node) (n : ℕ) (formed : Formed φ n)
    (hi : ℕ) (D : ℕ → Type 0) (whole : Whole φ n hi D) (β : ℕ → ℕ → Bool) (C : Claims) (supported : AllSupportedGiven S accepts φ hi β C D) where
  -- a claim is right for sets that agree with what the claims tell of the binders around
  pub right_given : (k q : ℕ) → D k → q < size S → (s : Bool) → (C k q).holds ≡ s → (ρ : Assignment) →
      ((b : ℕ) (p : Bool) → Occurs φ k b p → (r : ℕ) → r < size S → set_of φ hi β C b r ≡ under s p → Agree (under s p) (ρ b r)) →
      Agree s (Holds S accepts (λ j. (φ j).kind) k ρ q)
  right_given k q dk l s sd ρ h =
      let base = base_above C n (size S) in
      main S lawful accepts φ n formed hi D whole β C base.0 (λ i di. base.1 i (whole.known i di)) supported
      (suc k) k (omega arith) dk s (rank_of (C k q)) ρ (λ b p occ r lr bk. h b p occ r lr (back_set φ hi β C (under s p) b r (rank_of (C k q)) bk))
      q l sd (inr (λ _ _. refl))
