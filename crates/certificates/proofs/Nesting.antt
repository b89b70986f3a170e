-- A formula that is laid out is formed, and the nodes inside a binder are a whole with accumulating sides. Assumes nothing.
use Rattle.std.proofs.Common.{◌≡◌, ℕ, suc, ◌<◌, ◌≤◌, Bool, true, false, ◌⊎◌, sym, ap, ◌∙◌, subst, inl, inr, arith}
use Rattle.std.proofs.lemmas.Bool.{cases_lt, cases_order}
use Rattle.logic.specs.declared.nodes.Node.{Node}
use Rattle.logic.specs.Holding.{Manner, direct, bound, fixed, binds, Part}
use Rattle.logic.specs.Laid.{under, IsBinder, side_of, body_of, deeper, form, Encloses, Laid}
use Rattle.logic.proofs.Lines.{body_part}
use Rattle.certificates.specs.Merging.{Inside, accumulates}
use Rattle.certificates.proofs.Sides.{under_true, under_assoc, under_swap, under_twice, under_odd}
use Rattle.certificates.proofs.Free.{Occurs, here, inside, Formed, Closed, deeper_is, deeper_not, Whole}

is_binder : (m : Manner) → Dec (IsBinder m)
is_binder direct = no (λ x. x)
is_binder (bound b) = no (λ x. x)
is_binder (fixed w) = no (λ x. x)
is_binder (binds w a) = yes tt

not_less : (m : Manner) (d : ℕ) → d ≤ deeper m d
not_less direct d = omega arith
not_less (bound b) d = omega arith
not_less (fixed w) d = omega arith
not_less (binds w a) d = omega arith

module _ (φ : ℕ → Node) (n : ℕ) (scope : ℕ → ℕ → ℕ) (laid : Laid φ n scope) where
  -- b is the binder of its depth around j, and its body has the sign of j, under p
  abbrev Found : ℕ → ℕ → Bool → Type 0
  Found j b p = ((φ b).depth < (φ j).depth) × (scope j (φ b).depth ≡ b) × ((φ (body_of (form φ b))).sign ≡ under (φ j).sign p)

  widen : (j k b : ℕ) (p r : Bool) → j < n → Part (φ j).kind k p → (IsBinder (form φ j) → b ≡ j → ⊥) → Found k b r → Found j b (under p r)
  widen j k b p r jn o nb h = go (is_binder (form φ j))
    where
      sg : (φ (body_of (form φ b))).sign ≡ under (φ j).sign (under p r)
      sg = h.2 ∙ ap (λ v. under v r) (laid.signs j k p jn o) ∙ sym (under_assoc (φ j).sign p r)

      low : (φ b).depth < (φ j).depth → Found j b (under p r)
      low l = (l, sym (laid.within j k p jn o (φ b).depth l) ∙ h.1, sg)

      pack : IsBinder (form φ j) → (φ k).depth ≡ suc (φ j).depth → ((φ b).depth < (φ j).depth) ⊎ ((φ j).depth ≤ (φ b).depth) → Found j b (under p r)
      pack y e (inl l) = low l
      pack y e (inr l) =
          let same : (φ b).depth ≡ (φ j).depth = omega (arith, h.0) in
          absurd (nb y (sym h.1 ∙ ap (scope k) same ∙ laid.opened j k p jn o y))

      go : Dec (IsBinder (form φ j)) → Found j b (under p r)
      go (no y) = let e : (φ k).depth ≡ (φ j).depth = laid.depths j k p jn o ∙ deeper_not (form φ j) (φ j).depth y in low (omega (arith, h.0))
      go (yes y) = pack y (laid.depths j k p jn o ∙ deeper_is (form φ j) (φ j).depth y) (cases_lt (φ b).depth (φ j).depth)

  found : (j b : ℕ) (p : Bool) → Occurs φ j b p → j < n → Found j b p
  found j b p (here e) jn = let v = laid.variable j b jn e in (v.0, v.1, v.2 ∙ sym (under_true (φ j).sign))
  found j b p (inside k q r o nb occ) jn =
      let kj : k < j = laid.below j k q jn o in
      widen j k b q r jn o nb (found k b r occ (omega arith))

  -- the binder of a variable, as one that encloses it
  encloser : (j b : ℕ) (p : Bool) → j < n → Found j b p → Encloses φ n scope j (φ b).depth b
  encloser j b p jn h = subst (Encloses φ n scope j (φ b).depth) h.1 (laid.encloses j (φ b).depth jn h.0)

  pub laid_formed : Formed φ n
  laid_formed = record {
    below = laid.below;
    depths = laid.depths;
    scoped = λ j b p jn occ. let h = found j b p occ jn in let c = encloser j b p jn h in (c.known, c.is_one, h.0);
    monotone = λ j jn ib occ.
        let kj : body_of (form φ j) < j = laid.below j (body_of (form φ j)) true jn (body_part (φ j).kind ib) in
        under_odd (φ (body_of (form φ j))).sign (found (body_of (form φ j)) j false occ (omega arith)).2;
  }

  pub laid_closed : (j : ℕ) → j < n → (φ j).depth ≡ 0 → Closed φ j
  laid_closed j jn e b p occ = omega (arith, (found j b p occ jn).0)

  module _ (j : ℕ) (jn : j < n) where
    pub inside_whole : Whole φ n j (Inside φ n scope j)
    inside_whole = record {
      known = λ k h. h.0;
      low = λ k h. subst (λ x. k < x) h.2 (laid.encloses k (φ j).depth h.0 h.1).later;
      parts = λ i k p h o.
          let ki : k < i = laid.below i k p h.0 o in
          let dk : (φ k).depth ≡ deeper (form φ i) (φ i).depth = laid.depths i k p h.0 o in
          (omega (arith, h.0), omega (arith, h.1, not_less (form φ i) (φ i).depth), laid.within i k p h.0 o (φ j).depth h.1 ∙ h.2);
      inner = λ k b p h occ bj. inner_at k b p h (found k b p occ h.0) bj;
    }
      where
        inner_at : (k b : ℕ) (p : Bool) → Inside φ n scope j k → Found k b p → b < j → Inside φ n scope j b
        inner_at k b p h g bj = go (cases_order (φ b).depth (φ j).depth)
          where
            c : Encloses φ n scope k (φ b).depth b
            c = encloser k b p h.0 g

            cj : Encloses φ n scope k (φ j).depth j
            cj = subst (Encloses φ n scope k (φ j).depth) h.2 (laid.encloses k (φ j).depth h.0 h.1)

            go : ((φ b).depth ≡ (φ j).depth) ⊎ (((φ b).depth < (φ j).depth) ⊎ ((φ j).depth < (φ b).depth)) → Inside φ n scope j b
            go (inl e) = let z : b ≡ j = sym g.1 ∙ ap (scope k) e ∙ h.2 in absurd (omega arith)
            go (inr (inl l)) =
                let sj : scope j (φ b).depth ≡ b = cj.outer (φ b).depth l ∙ g.1 in
                let z : j < b = subst (λ x. j < x) sj (laid.encloses j (φ b).depth jn l).later in absurd (omega arith)
            go (inr (inr l)) = (c.known, l, c.outer (φ j).depth l ∙ h.2)

    module _ (ib : IsBinder (form φ j)) where
      abbrev a : ℕ
      a = body_of (form φ j)

      o : Part (φ j).kind a true
      o = body_part (φ j).kind ib

      pub inside_body : Inside φ n scope j a
      inside_body =
          let aj : a < j = laid.below j a true jn o in
          let e : (φ a).depth ≡ suc (φ j).depth = laid.depths j a true jn o ∙ deeper_is (form φ j) (φ j).depth ib in
          (omega arith, omega arith, laid.opened j a true jn o ib)

      -- the body accumulates on the side of its binder
      pub acc_body : accumulates φ j a ≡ side_of (form φ j)
      acc_body = ap (λ v. under v (under (φ j).sign (side_of (form φ j)))) sign_a ∙ under_twice (φ j).sign (side_of (form φ j))
        where
          sign_a : (φ a).sign ≡ (φ j).sign
          sign_a = laid.signs j a true jn o ∙ under_true (φ j).sign

  pub acc_part : (j k i : ℕ) (p : Bool) → k < n → Part (φ k).kind i p → accumulates φ j i ≡ under (accumulates φ j k) p
  acc_part j k i p kn o =
      ap (λ v. under v (under (φ j).sign (side_of (form φ j)))) (laid.signs k i p kn o) ∙ under_swap (φ k).sign p (under (φ j).sign (side_of (form φ j)))

  pub acc_back : (j k b : ℕ) (p : Bool) → k < n → Occurs φ k b p → accumulates φ j (body_of (form φ b)) ≡ under (accumulates φ j k) p
  acc_back j k b p kn occ =
      ap (λ v. under v (under (φ j).sign (side_of (form φ j)))) (found k b p occ kn).2 ∙ under_swap (φ k).sign p (under (φ j).sign (side_of (form φ j)))
