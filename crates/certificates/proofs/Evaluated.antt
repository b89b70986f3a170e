-- The claims of a node, as they are found from those of its parts, are supported. Assumes nothing.
use Rattle.std.proofs.Common.{◌≡◌, ℕ, zero, suc, ◌<◌, ◌≤◌, Bool, true, false, cond, not, T, sym, refl, ap, ◌∙◌, subst, inr, le_refl, arith}
use Rattle.std.proofs.lemmas.Bool.{le-ltb}
use Rattle.systems.specs.Meaning.{Meaning, Lawful}
use Rattle.logic.specs.Guards.{Guard}
use Rattle.logic.specs.declared.nodes.Kind.{Kind}
use Rattle.logic.specs.declared.nodes.Node.{Node}
use Rattle.logic.specs.Unfolding.{Agree}
use Rattle.logic.specs.Holding.{direct, bound, fixed, manner, choose, Part}
use Rattle.logic.specs.Laid.{under, body_of, form}
use Rattle.logic.proofs.Lines.{body_part}
use Rattle.certificates.specs.Ranks.{Same, rank_of, Claims}
use Rattle.certificates.specs.Support.{same_side, Passes, PartCounts, AgainCounts}
use Rattle.certificates.specs.Relative.{HasSide, AgainGiven, SupportedGivenAs, SupportedGiven}
use Rattle.certificates.specs.Merging.{first_since}
use Rattle.certificates.specs.Rounds.{Once, OwnRounds, PartsBlank, OwnClaim, OwnRoundsGrow, FixedSupported, DirectSupported, VariableSupported, BinderSupported}
use Rattle.certificates.proofs.Sides.{under_true, same_true, same_false, eq_same, same_not, not_self, other, side_right, side_is, one_side, both}
use Rattle.certificates.proofs.Places.{zeros_not_later}
use Rattle.certificates.proofs.Table.{size, IsDirect, unfold_mono, direct_unfolds, body_counts}
use Rattle.certificates.proofs.Firsts.{first_le, first_hit, stays, first_least}

module _ (S : Meaning) (lawful : Lawful S) (accepts : Guard → ℕ → Bool) (K : Kind) (side : ℕ → ℕ → Bool) where
  abbrev part : Bool → ℕ → ℕ → Type 0
  part p k r = Agree p (T (side k r))

  larger : (w : Bool) (X Y : ℕ → Bool) → ((q : ℕ) → q < size S → X q ≡ w → Y q ≡ w) → (q : ℕ) → q < size S →
      Agree w (Once S accepts K side X q) → Agree w (Once S accepts K side Y q)
  larger true X Y h q l u = unfold_mono S lawful accepts part part (λ r. T (X r)) (λ r. T (Y r)) K (λ _ _ _ _ _ x. x)
      (λ r lr x. side_right (Y r) true (h r lr (side_is (X r) true x))) q l u
  larger false X Y h q l u = λ v. u (unfold_mono S lawful accepts part part (λ r. T (Y r)) (λ r. T (X r)) K (λ _ _ _ _ _ x. x)
      (λ r lr y. side_right (X r) true (other (X r) true (λ e. side_right (Y r) false (h r lr e) y))) q l v)

  -- one unfolding has the side s where the parts and the states that have their side for it count
  to_side : (s : Bool) (X : ℕ → Bool) (U : Bool → ℕ → ℕ → Type 0) (V : ℕ → Type 0) →
      ((p : Bool) (k r : ℕ) → Part K k p → r < size S → side k r ≡ under s p → U p k r) →
      ((r : ℕ) → r < size S → X r ≡ s → V r) → (q : ℕ) → q < size S → Agree s (Once S accepts K side X q) → HasSide S accepts s K U V q
  to_side true X U V f g q l u = unfold_mono S lawful accepts part U (λ r. T (X r)) V K
      (λ p k r o lr x. f p k r o lr (side_is (side k r) p x)) (λ r lr x. g r lr (side_is (X r) true x)) q l u
  to_side false X U V f g q l u = λ v. u (unfold_mono S lawful accepts (λ p k r. U p k r → ⊥) part (λ r. V r → ⊥) (λ r. T (X r)) K
      (λ p k r o lr h. side_right (side k r) p (other (side k r) p (λ e. h (f p k r o lr e))))
      (λ r lr h. side_right (X r) true (other (X r) true (λ e. h (g r lr e)))) q l v)

  module _ (w : Bool) (X : ℕ → ℕ → Bool) (m : ℕ) (rounds : OwnRounds S accepts K side w X m) where
    own_grows : (i : ℕ) → i ≤ m → (q : ℕ) → q < size S → X i q ≡ w → X (suc i) q ≡ w
    own_grows zero im q l e = absurd (not_self w (sym (rounds.begins q l) ∙ e))
    own_grows (suc i) im q l e = one_side (X (suc (suc i)) q) w (Once S accepts K side (X (suc i)) q) (rounds.turns (suc i) q im l)
        (larger w (X i) (X (suc i)) (own_grows i (omega arith)) q l
        (subst (λ t. Agree t (Once S accepts K side (X i) q)) e (rounds.turns i q (omega arith) l)))

pub own_rounds_grow : OwnRoundsGrow
own_rounds_grow S accepts K side w X m lawful rounds i q im l = own_grows S lawful accepts K side w X m rounds i im q l

module _ (S : Meaning) (lawful : Lawful S) (accepts : Guard → ℕ → Bool) (φ : ℕ → Node) (hi : ℕ) (β : ℕ → ℕ → Bool)
    (C : Claims) (j : ℕ) (parts : PartsBlank S φ C j) where
  abbrev sides : ℕ → ℕ → Bool
  sides k r = (C k r).holds

  abbrev d : ℕ
  d = (φ j).depth

  part_counts : (q : ℕ) (s p : Bool) (k r : ℕ) → Part (φ j).kind k p → r < size S → (C k r).holds ≡ under s p → PartCounts φ C j q (under s p) k r
  part_counts q s p k r o l e = (e, zeros_not_later d (rank_of (C k r)) (rank_of (C j q)) (λ x y. parts k r x p o l y))

  -- one unfolding gives support where what it comes back to counts
  once_supported : (s : Bool) (X : ℕ → Bool) (q : ℕ) → q < size S → ((r : ℕ) → r < size S → X r ≡ s → AgainGiven φ hi β C j q s (form φ j) r) →
      Agree s (Once S accepts (φ j).kind sides X q) → SupportedGivenAs S accepts φ hi β C s j q
  once_supported s X q l g u = to_side S lawful accepts (φ j).kind sides s X
      (λ p k r. PartCounts φ C j q (under s p) k r) (AgainGiven φ hi β C j q s (form φ j)) (part_counts q s) g q l u

  direct_at : form φ j ≡ direct → (q : ℕ) (X : ℕ → Bool) → q < size S → Agree (C j q).holds (Once S accepts (φ j).kind sides X q) →
      SupportedGiven S accepts φ hi β C j q
  direct_at f q X l u = once_supported s (λ _. not s) q l (λ r lr e. absurd (not_self s e)) (subst (Agree s) moved u)
    where
      s : Bool
      s = (C j q).holds

      moved : Once S accepts (φ j).kind sides X q ≡ Once S accepts (φ j).kind sides (λ _. not s) q
      moved = direct_unfolds S accepts (λ p k r. Agree p (T (sides k r))) (φ j).kind (subst IsDirect (sym f) tt) (λ r. T (X r)) (λ _. T (not s)) q

  module _ (w : Bool) (X : ℕ → ℕ → Bool) (m : ℕ) (f : form φ j ≡ fixed w) (rounds : OwnRounds S accepts (φ j).kind sides w X m)
      (settled : (q : ℕ) → q < size S → X (suc m) q ≡ X m q) (own : (q : ℕ) → q < size S → OwnClaim d w X m q (C j q)) where
    abbrev first : ℕ → ℕ
    first q = first_since (λ i. X i q) w m

    keeps : (q : ℕ) → q < size S → (i : ℕ) → i < m → X i q ≡ w → X (suc i) q ≡ w
    keeps q l i im = own_grows S lawful accepts (φ j).kind sides w X m rounds i (omega arith) q l

    same_low : (q r : ℕ) → q < size S → r < size S → Same d (rank_of (C j r)) (rank_of (C j q))
    same_low q r l lr x xd = (own r lr).before x xd ∙ sym ((own q l).before x xd)

    marked : (q : ℕ) → q < size S → X m q ≡ w → rank_of (C j q) d ≡ first q
    marked q l e = (own q l).place ∙ ap (λ v. cond v (first q) 0) (eq_same (X m q) w e)

    -- on the accumulating side q came in one round after what it comes back to
    came_in : (q : ℕ) → q < size S → X m q ≡ w → (i : ℕ) → first q ≡ suc i → (r : ℕ) → r < size S → X i r ≡ w → AgainGiven φ hi β C j q w (form φ j) r
    came_in q l e i z r lr h = subst (λ o. AgainGiven φ hi β C j q w o r) (sym f)
        ((own r lr).side ∙ hm, subst (λ v. Passes v d (rank_of (C j r)) (rank_of (C j q))) (sym (eq_same w w refl)) (d, omega arith, lt, same_low q r l lr))
      where
        im : suc i ≤ m
        im = subst (λ x. x ≤ m) z (first_le (λ i. X i q) w m)

        hm : X m r ≡ w
        hm = stays (λ i. X i r) w m (keeps r lr) m i (omega (arith, im)) (le_refl m) h

        lt : rank_of (C j r) d < rank_of (C j q) d
        lt = omega (arith, z, first_least (λ i. X i r) w m (keeps r lr) m i (omega (arith, im)) (le_refl m) h, marked r lr hm, marked q l e)

    on_side : (q : ℕ) → q < size S → X m q ≡ w → (i : ℕ) → first q ≡ i → SupportedGivenAs S accepts φ hi β C w j q
    on_side q l e zero z = absurd (not_self w (sym (rounds.begins q l) ∙ subst (λ i. X i q ≡ w) z (first_hit (λ i. X i q) w m e)))
    on_side q l e (suc i) z = once_supported w (X i) q l (came_in q l e i z)
        (subst (λ t. Agree t (Once S accepts (φ j).kind sides (X i) q)) (subst (λ y. X y q ≡ w) z (first_hit (λ i. X i q) w m e))
        (rounds.turns i q (omega (arith, z, first_le (λ i. X i q) w m)) l))

    off_side : (q : ℕ) → q < size S → X m q ≡ not w → SupportedGivenAs S accepts φ hi β C (not w) j q
    off_side q l e = once_supported (not w) (X m) q l
        (λ r lr h. subst (λ o. AgainGiven φ hi β C j q (not w) o r) (sym f)
        ((own r lr).side ∙ h, subst (λ v. Passes v d (rank_of (C j r)) (rank_of (C j q))) (sym (same_not w)) (inr (same_low q r l lr))))
        (subst (λ t. Agree t (Once S accepts (φ j).kind sides (X m) q)) (settled q l ∙ e) (rounds.turns m q (le_refl m) l))

    fixed_at : (q : ℕ) → q < size S → SupportedGiven S accepts φ hi β C j q
    fixed_at q l = subst (λ t. SupportedGivenAs S accepts φ hi β C t j q) (sym (own q l).side) (go (same_side (X m q) w) refl)
      where
        go : (v : Bool) → same_side (X m q) w ≡ v → SupportedGivenAs S accepts φ hi β C (X m q) j q
        go true e = let h = same_true (X m q) w e in subst (λ t. SupportedGivenAs S accepts φ hi β C t j q) (sym h) (on_side q l h (first q) refl)
        go false e = let h = same_false (X m q) w e in subst (λ t. SupportedGivenAs S accepts φ hi β C t j q) (sym h) (off_side q l h)

pub fixed_supported : FixedSupported
fixed_supported S accepts φ hi β C j w X m lawful f parts rounds settled own q l = fixed_at S lawful accepts φ hi β C j parts w X m f rounds settled own q l

pub direct_supported : DirectSupported
direct_supported S accepts φ hi β C j q X lawful f parts l u = direct_at S lawful accepts φ hi β C j parts f q X l u

pub variable_supported : VariableSupported
variable_supported S accepts φ hi β C j q b e l h =
    subst (λ K. HasSide S accepts s K (λ p k r. PartCounts φ C j q (under s p) k r) (AgainGiven φ hi β C j q s (manner K)) q) (sym e) (both s _ as_given)
  where
    s : Bool
    s = (C j q).holds

    as_given : AgainGiven φ hi β C j q s (bound b) q
    as_given = subst (λ v. choose v (AgainCounts φ C j q s (bound b) q) (β b q ≡ s)) (sym (le-ltb b hi l)) (sym h)

pub binder_supported : BinderSupported
binder_supported S accepts φ hi β C j q ib parts l e =
    body_counts S accepts s (φ j).kind (λ p k r. PartCounts φ C j q (under s p) k r) (AgainGiven φ hi β C j q s (form φ j)) ib q
    (e ∙ sym (under_true s), zeros_not_later (φ j).depth (rank_of (C a q)) (rank_of (C j q)) (λ x y. parts a q x true (body_part (φ j).kind ib) l y))
  where
    s : Bool
    s = (C j q).holds

    a : ℕ
    a = body_of (form φ j)
