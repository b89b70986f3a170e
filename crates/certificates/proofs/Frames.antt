-- Support reads the claims of the nodes, of their parts and of the bodies that they come back to, and no others. Assumes nothing.
use Rattle.std.proofs.Common.{◌≡◌, ℕ, ◌<◌, ◌≤◌, Bool, true, false, ltb, sym, refl, ◌∙◌, subst}
use Rattle.std.proofs.lemmas.Bool.{ltb-true, ltb-false}
use Rattle.systems.specs.Meaning.{Meaning, Lawful}
use Rattle.logic.specs.Guards.{Guard}
use Rattle.logic.specs.declared.nodes.Node.{Node}
use Rattle.logic.specs.Holding.{Manner, direct, bound, fixed, binds, choose, Part}
use Rattle.logic.specs.Laid.{under, side_of, body_of, form}
use Rattle.certificates.specs.Ranks.{rank_of, Claims}
use Rattle.certificates.specs.Support.{same_side, PartCounts}
use Rattle.certificates.specs.Relative.{AgainGiven, SupportedGivenAs, AllSupportedGiven}
use Rattle.certificates.proofs.Places.{not_later_moved, passes_moved}
use Rattle.certificates.proofs.Table.{size}
use Rattle.certificates.proofs.Given.{BodyPasses, Back, supported_mono}

module _ (S : Meaning) (lawful : Lawful S) (accepts : Guard → ℕ → Bool) (φ : ℕ → Node) (D : ℕ → Type 0) (hi hi' : ℕ) (β β' : ℕ → ℕ → Bool) (C C' : Claims)
    (sides : (k q : ℕ) → D k → q < size S → (C' k q).holds ≡ (C k q).holds)
    (ranks : (k q : ℕ) → D k → q < size S → (x : ℕ) → rank_of (C' k q) x ≡ rank_of (C k q) x)
    (parts : (j k : ℕ) (p : Bool) → D j → Part (φ j).kind k p → D k)
    (bodies : (j b : ℕ) → D j → form φ j ≡ bound b → b < hi' → D (body_of (form φ b)))
    (tests : (j b : ℕ) → D j → form φ j ≡ bound b → ltb b hi ≡ ltb b hi')
    (given : (j b q : ℕ) → D j → form φ j ≡ bound b → hi' ≤ b → q < size S → β' b q ≡ β b q) where
  module _ (j q : ℕ) (dj : D j) (l : q < size S) (s : Bool) where
    moved_back : (b : ℕ) → form φ j ≡ bound b → (r : ℕ) → r < size S → Back φ hi β C s (rank_of (C j q)) b r → Back φ hi' β' C' s (rank_of (C' j q)) b r
    moved_back b f r lr h = go (ltb b hi') refl (subst (λ v. choose v (BodyPasses φ C s (rank_of (C j q)) b r) (β b r ≡ s)) (tests j b dj f) h)
      where
        go : (v : Bool) → ltb b hi' ≡ v → choose v (BodyPasses φ C s (rank_of (C j q)) b r) (β b r ≡ s) →
            choose v (BodyPasses φ C' s (rank_of (C' j q)) b r) (β' b r ≡ s)
        go true t h =
            let db = bodies j b dj f (ltb-true b hi' t) in
            (sides _ r db lr ∙ h.0, passes_moved _ _ _ _ (same_side s (side_of (form φ b))) (φ b).depth (ranks _ r db lr) (ranks j q dj l) h.1)
        go false t h = given j b r dj f (ltb-false b hi' t) lr ∙ h

    moved_again : (o : Manner) → form φ j ≡ o → (r : ℕ) → r < size S → AgainGiven φ hi β C j q s o r → AgainGiven φ hi' β' C' j q s o r
    moved_again direct f r lr h = h
    moved_again (bound b) f r lr h = moved_back b f r lr h
    moved_again (fixed w) f r lr h = (sides j r dj lr ∙ h.0, passes_moved _ _ _ _ (same_side s w) (φ j).depth (ranks j r dj lr) (ranks j q dj l) h.1)
    moved_again (binds w a) f r lr h = h

    moved_part : (p : Bool) (k r : ℕ) → Part (φ j).kind k p → r < size S → PartCounts φ C j q (under s p) k r → PartCounts φ C' j q (under s p) k r
    moved_part p k r o lr h =
        let dk = parts j k p dj o in
        (sides k r dk lr ∙ h.0, not_later_moved _ _ _ _ (φ j).depth (λ x _. ranks k r dk lr x) (λ x _. ranks j q dj l x) h.1)

  -- the claims of D are supported as they were, where those of D, and what is given to them, tell the same
  pub supported_moved : AllSupportedGiven S accepts φ hi β C D → AllSupportedGiven S accepts φ hi' β' C' D
  supported_moved h j q dj l = subst (λ s. SupportedGivenAs S accepts φ hi' β' C' s j q) (sym (sides j q dj l))
      (supported_mono S lawful accepts φ hi hi' β β' C C' (C j q).holds j q l (moved_part j q dj l (C j q).holds)
      (moved_again j q dj l (C j q).holds (form φ j) refl) (h j q dj l))
