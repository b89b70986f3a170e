-- The merged claims of a binder's rounds are supported. Assumes nothing.
use Rattle.std.proofs.Common.{◌≡◌, ℕ, zero, suc, ◌<◌, ◌≤◌, Bool, true, false, cond, not, ltb, ◌⊎◌, sym, refl, ap, ◌∙◌, subst, inl, inr, le_refl, arith}
use Rattle.std.proofs.lemmas.Bool.{lt-ltb, le-ltb, eq-eqb, ne_eqb, cases_lt, cases_order}
use Rattle.systems.specs.Meaning.{Meaning, Lawful}
use Rattle.logic.specs.Guards.{Guard}
use Rattle.logic.specs.declared.nodes.Node.{Node}
use Rattle.logic.specs.Holding.{Manner, direct, bound, fixed, binds, choose, Part}
use Rattle.logic.specs.Laid.{under, IsBinder, side_of, body_of, form, Laid}
use Rattle.logic.proofs.Lines.{body_part}
use Rattle.certificates.specs.Ranks.{Same, rank_of, Claims}
use Rattle.certificates.specs.Support.{same_side, Passes, PartCounts}
use Rattle.certificates.specs.Relative.{AgainGiven, SupportedGivenAs, SupportedGiven}
use Rattle.certificates.specs.Merging.{Inside, accumulates, set_in, with_set, reached, reached_in, RoundsOf, Settled, RoundsBlank, MergedRounds, RoundsMerge}
use Rattle.certificates.proofs.Sides.{under_true, same_true, same_false, eq_same, same_not, same_under, not_self}
use Rattle.certificates.proofs.Places.{passes_put}
use Rattle.certificates.proofs.Table.{size}
use Rattle.certificates.proofs.Free.{here, Formed, Whole}
use Rattle.certificates.proofs.Given.{BodyPasses, Back, supported_mono}
use Rattle.certificates.proofs.Nesting.{laid_formed, inside_whole, inside_body, acc_body, acc_part, acc_back}
use Rattle.certificates.proofs.Firsts.{first_le, first_hit, stays, first_least}
use Rattle.certificates.proofs.Grow.{grows_one}

module _ (S : Meaning) (lawful : Lawful S) (accepts : Guard → ℕ → Bool) (φ : ℕ → Node) (n : ℕ) (scope : ℕ → ℕ → ℕ) (laid : Laid φ n scope)
    (j : ℕ) (jn : j < n) (ib : IsBinder (form φ j)) (β : ℕ → ℕ → Bool) (C : ℕ → Claims) (m : ℕ) (rounds : RoundsOf S accepts φ n scope j β C m)
    (settled : Settled S φ j C m) (blank : RoundsBlank S φ n scope j C m) (M : Claims) (merged : MergedRounds S φ n scope j C m M) where
  abbrev D : ℕ → Type 0
  D = Inside φ n scope j

  abbrev acc : ℕ → Bool
  acc = accumulates φ j

  abbrev w : Bool
  w = side_of (form φ j)

  abbrev a : ℕ
  a = body_of (form φ j)

  abbrev d : ℕ
  d = (φ j).depth

  -- the first round of (k, q) on its accumulating side, its mark, and the round of its merged claim
  abbrev first : ℕ → ℕ → ℕ
  first k q = reached_in φ j C m k q

  abbrev hit : ℕ → ℕ → Bool
  hit k q = reached φ j C m k q

  abbrev mark : ℕ → ℕ → ℕ
  mark k q = cond (hit k q) (first k q) 0

  abbrev round : ℕ → ℕ → ℕ
  round k q = cond (hit k q) (first k q) m

  abbrev R : ℕ → ℕ → ℕ → ℕ
  R k q = rank_of (M k q)

  formed : Formed φ n
  formed = laid_formed φ n scope laid

  whole : Whole φ n j D
  whole = inside_whole φ n scope laid j jn

  da : D a
  da = inside_body φ n scope laid j jn ib

  acc_a : acc a ≡ w
  acc_a = acc_body φ n scope laid j jn ib

  keeps : (k : ℕ) → D k → (q : ℕ) → q < size S → (i : ℕ) → i < m → (C i k q).holds ≡ acc k → (C (suc i) k q).holds ≡ acc k
  keeps k dk q l i im = grows_one S lawful accepts φ n scope laid j jn ib β C m rounds i im k dk q l

  stays_at : (k : ℕ) → D k → (q : ℕ) → q < size S → (i : ℕ) → i ≤ m → (C i k q).holds ≡ acc k → (C m k q).holds ≡ acc k
  stays_at k dk q l i im = stays (λ x. (C x k q).holds) (acc k) m (keeps k dk q l) m i im (le_refl m)

  first_at : (k : ℕ) → D k → (q : ℕ) → q < size S → (i : ℕ) → i ≤ m → (C i k q).holds ≡ acc k → first k q ≤ i
  first_at k dk q l i im = first_least (λ x. (C x k q).holds) (acc k) m (keeps k dk q l) m i im (le_refl m)

  first_most : (k q : ℕ) → first k q ≤ m
  first_most k q = first_le (λ i. (C i k q).holds) (acc k) m

  round_most : (k q : ℕ) → round k q ≤ m
  round_most k q = go (hit k q)
    where
      go : (v : Bool) → cond v (first k q) m ≤ m
      go true = first_most k q
      go false = le_refl m

  round_side : (k q : ℕ) → (C (round k q) k q).holds ≡ (C m k q).holds
  round_side k q = go (hit k q) refl
    where
      go : (v : Bool) → hit k q ≡ v → (C (cond v (first k q) m) k q).holds ≡ (C m k q).holds
      go true e = let h = same_true (C m k q).holds (acc k) e in first_hit (λ i. (C i k q).holds) (acc k) m h ∙ sym h
      go false e = refl

  -- before the place of j merged ranks are 0
  low : (k q : ℕ) → D k → q < size S → (x : ℕ) → x < d → R k q x ≡ 0
  low k q dk l x xd = (merged k q dk l).rest x (omega arith) ∙ blank (round k q) k q x (round_most k q) dk l (omega arith)

  same_low : (k q k' q' : ℕ) → D k → q < size S → D k' → q' < size S → Same d (R k' q') (R k q)
  same_low k q k' q' dk l dk' l' x xd = low k' q' dk' l' x xd ∙ sym (low k q dk l x xd)

  -- (k', q') is marked earlier, or alike and taken from the same round
  abbrev Order : ℕ → ℕ → ℕ → ℕ → Type 0
  Order k' q' k q = (mark k' q' < mark k q) ⊎ ((mark k' q' ≡ mark k q) × (round k' q' ≡ round k q))

  -- what the claim of (k, q) used in its round keeps its side, and is marked no later
  used : (k q k' q' : ℕ) (t : Bool) → D k' → q' < size S → same_side t (acc k') ≡ hit k q → (C (round k q) k' q').holds ≡ t →
      ((C m k' q').holds ≡ t) × Order k' q' k q
  used k q k' q' t dk' l' = go (hit k q)
    where
      pack : (i x : ℕ) → mark k' q' ≡ x → round k' q' ≡ x → x ≤ i → (x < i) ⊎ (i ≤ x) → (mark k' q' < i) ⊎ ((mark k' q' ≡ i) × (round k' q' ≡ i))
      pack i x mk rd le (inl y) = inl (omega arith)
      pack i x mk rd le (inr y) = let e : x ≡ i = omega arith in inr (mk ∙ e, rd ∙ e)

      go : (v : Bool) → same_side t (acc k') ≡ v → (C (cond v (first k q) m) k' q').holds ≡ t →
          ((C m k' q').holds ≡ t) × ((mark k' q' < cond v (first k q) 0) ⊎ ((mark k' q' ≡ cond v (first k q) 0) × (round k' q' ≡ cond v (first k q) m)))
      go true e h =
          let ta : t ≡ acc k' = same_true t (acc k') e in
          let st : (C m k' q').holds ≡ acc k' = stays_at k' dk' q' l' (first k q) (first_most k q) (h ∙ ta) in
          let ht : hit k' q' ≡ true = eq_same (C m k' q').holds (acc k') st in
          let mk : mark k' q' ≡ first k' q' = ap (λ v. cond v (first k' q') 0) ht in
          let rd : round k' q' ≡ first k' q' = ap (λ v. cond v (first k' q') m) ht in
          let le : first k' q' ≤ first k q = first_at k' dk' q' l' (first k q) (first_most k q) (h ∙ ta) in
          (st ∙ sym ta, pack (first k q) (first k' q') mk rd le (cases_lt (first k' q') (first k q)))
      go false e h =
          let ht : hit k' q' ≡ false = subst (λ v. same_side v (acc k') ≡ false) (sym h) e in
          (h, inr (ap (λ v. cond v (first k' q') 0) ht, ap (λ v. cond v (first k' q') m) ht))

  module _ (k q : ℕ) (dk : D k) (l : q < size S) where
    -- the claims of the round of (k, q), and its sets
    abbrev was : Claims
    was = C (round k q)

    abbrev sets : ℕ → ℕ → Bool
    sets = with_set β j (set_in φ j C (round k q))

    abbrev s : Bool
    s = (C m k q).holds

    ordered : (k' q' : ℕ) → D k' → q' < size S → (v : Bool) (e : ℕ) → d < e → Order k' q' k q →
        Passes v e (rank_of (was k' q')) (rank_of (was k q)) → Passes v e (R k' q') (R k q)
    ordered k' q' dk' l' v e de (inl h) p = pass v
      where
        lt : R k' q' d < R k q d
        lt = omega (arith, h, (merged k' q' dk' l').place, (merged k q dk l).place)

        pass : (v : Bool) → Passes v e (R k' q') (R k q)
        pass true = (d, omega arith, lt, same_low k q k' q' dk l dk' l')
        pass false = inl (d, de, lt, same_low k q k' q' dk l dk' l')
    ordered k' q' dk' l' v e de (inr h) p =
        passes_put (rank_of (was k' q')) (rank_of (was k q)) (R k' q') (R k q) d
        (blank (round k q) k' q' d (round_most k q) dk' l' (le_refl d) ∙ sym (blank (round k q) k q d (round_most k q) dk l (le_refl d)))
        ((merged k' q' dk' l').place ∙ h.0 ∙ sym (merged k q dk l).place)
        (λ y ne. (merged k' q' dk' l').rest y ne ∙ ap (λ x. rank_of (C x k' q') y) h.1) (merged k q dk l).rest v e p

    -- the claim of (k', q') that was used, as it is merged
    carried : (k' q' : ℕ) (t : Bool) → D k' → q' < size S → same_side t (acc k') ≡ hit k q → (v : Bool) (e : ℕ) → d < e →
        ((was k' q').holds ≡ t) × Passes v e (rank_of (was k' q')) (rank_of (was k q)) → ((M k' q').holds ≡ t) × Passes v e (R k' q') (R k q)
    carried k' q' t dk' l' e v x dx h =
        let u = used k q k' q' t dk' l' e h.0 in ((merged k' q' dk' l').side ∙ u.0, ordered k' q' dk' l' v x dx u.1 h.1)

    from_part : (p : Bool) (k' q' : ℕ) → Part (φ k).kind k' p → q' < size S → PartCounts φ was k q (under s p) k' q' → PartCounts φ M k q (under s p) k' q'
    from_part p k' q' o l' h =
        carried k' q' (under s p) (whole.parts k k' p dk o) l'
        (ap (same_side (under s p)) (acc_part φ n scope laid j k k' p dk.0 o) ∙ same_under s (acc k) p) false (φ k).depth dk.1 h

    module _ (b : ℕ) (f : form φ k ≡ bound b) (q' : ℕ) (l' : q' < size S) where
      acc_b : acc (body_of (form φ b)) ≡ acc k
      acc_b = acc_back φ n scope laid j k b true dk.0 (here f) ∙ under_true (acc k)

      from_inner : b < j → BodyPasses φ was s (rank_of (was k q)) b q' → BodyPasses φ M s (R k q) b q'
      from_inner bj h =
          let db : D b = whole.inner k b true dk (here f) bj in
          let dy : D (body_of (form φ b)) = whole.parts b (body_of (form φ b)) true db (body_part (φ b).kind (formed.scoped k b true dk.0 (here f)).1) in
          carried (body_of (form φ b)) q' s dy l' (ap (same_side s) acc_b) (same_side s (side_of (form φ b))) (φ b).depth db.1 h

      -- what came in by a round was reached before it
      came : (i : ℕ) → i ≤ m → set_in φ j C i q' ≡ w → ((C m a q').holds ≡ w) × (first a q' < i)
      came zero im e = absurd (not_self w e)
      came (suc i) im e =
          let h : (C i a q').holds ≡ acc a = e ∙ sym acc_a in
          let le : first a q' ≤ i = first_at a da q' l' i (omega arith) h in
          (stays_at a da q' l' i (omega arith) h ∙ acc_a, omega arith)

      -- the variable of j itself
      from_own : acc k ≡ w → set_in φ j C (round k q) q' ≡ s → ((M a q').holds ≡ s) × Passes (same_side s w) d (R a q') (R k q)
      from_own kw = go (hit k q) refl
        where
          go : (v : Bool) → hit k q ≡ v → set_in φ j C (cond v (first k q) m) q' ≡ s → ((M a q').holds ≡ s) × Passes (same_side s w) d (R a q') (R k q)
          go true e x =
              let sw : s ≡ w = same_true s (acc k) e ∙ kw in
              let c = came (first k q) (first_most k q) (x ∙ sw) in
              let ma : mark a q' ≡ first a q' = ap (λ v. cond v (first a q') 0) (eq_same (C m a q').holds (acc a) (c.0 ∙ sym acc_a)) in
              let mk : mark k q ≡ first k q = ap (λ v. cond v (first k q) 0) e in
              let lt : R a q' d < R k q d = omega (arith, (merged a q' da l').place, (merged k q dk l).place, ma, mk, c.1) in
              let pass : Passes true d (R a q') (R k q) = (d, omega arith, lt, same_low k q a q' dk l da l') in
              ((merged a q' da l').side ∙ c.0 ∙ sym sw, subst (λ v. Passes v d (R a q') (R k q)) (sym (eq_same s w sw)) pass)
          go false e x =
              let off : same_side s w ≡ false = ap (λ t. same_side t w) (same_false s (acc k) e ∙ ap not kw) ∙ same_not w in
              let pass : Passes false d (R a q') (R k q) = inr (same_low k q a q' dk l da l') in
              ((merged a q' da l').side ∙ settled q' l' ∙ x, subst (λ v. Passes v d (R a q') (R k q)) (sym off) pass)

      from_back : Back φ j sets was s (rank_of (was k q)) b q' → Back φ (suc j) β M s (R k q) b q'
      from_back h = go (cases_order b j)
        where
          old : (v : Bool) → ltb b j ≡ v → choose v (BodyPasses φ was s (rank_of (was k q)) b q') (sets b q' ≡ s)
          old v e = subst (λ v. choose v (BodyPasses φ was s (rank_of (was k q)) b q') (sets b q' ≡ s)) e h

          new : (v : Bool) → ltb b (suc j) ≡ v → choose v (BodyPasses φ M s (R k q) b q') (β b q' ≡ s) → Back φ (suc j) β M s (R k q) b q'
          new v e = subst (λ v. choose v (BodyPasses φ M s (R k q) b q') (β b q' ≡ s)) (sym e)

          at_j : b ≡ j → BodyPasses φ M s (R k q) b q'
          at_j e =
              let x = subst (λ v. cond v (set_in φ j C (round k q) q') (β b q') ≡ s) (eq-eqb b j e) (old false (le-ltb b j (omega arith))) in
              subst (λ y. BodyPasses φ M s (R k q) y q') (sym e) (from_own (sym acc_b ∙ ap (λ y. acc (body_of (form φ y))) e ∙ acc_a) x)

          go : (b ≡ j) ⊎ ((b < j) ⊎ (j < b)) → Back φ (suc j) β M s (R k q) b q'
          go (inl e) = new true (lt-ltb b (suc j) (omega arith)) (at_j e)
          go (inr (inl y)) = new true (lt-ltb b (suc j) (omega arith)) (from_inner y (old true (lt-ltb b j y)))
          go (inr (inr y)) =
              new false (le-ltb b (suc j) y)
              (subst (λ v. cond v (set_in φ j C (round k q) q') (β b q') ≡ s) (ne_eqb b j (omega arith)) (old false (le-ltb b j (omega arith))))

    from_again : (o : Manner) → form φ k ≡ o → (q' : ℕ) → q' < size S → AgainGiven φ j sets was k q s o q' → AgainGiven φ (suc j) β M k q s o q'
    from_again direct f q' l' h = h
    from_again (bound b) f q' l' h = from_back b f q' l' h
    from_again (fixed v) f q' l' h = carried k q' s dk l' refl (same_side s v) (φ k).depth dk.1 h
    from_again (binds v b) f q' l' h = h

    merged_at : SupportedGiven S accepts φ (suc j) β M k q
    merged_at = subst (λ t. SupportedGivenAs S accepts φ (suc j) β M t k q) (sym (merged k q dk l).side)
        (supported_mono S lawful accepts φ j (suc j) sets β was M s k q l from_part (from_again (form φ k) refl)
        (subst (λ t. SupportedGivenAs S accepts φ j sets was t k q) (round_side k q) (rounds (round k q) (round_most k q) k q dk l)))

pub rounds_merge : RoundsMerge
rounds_merge S accepts φ n scope j β C m M lawful laid jn ib rounds settled blank merged k q dk l =
    merged_at S lawful accepts φ n scope laid j jn ib β C m rounds settled blank M merged k q dk l
