-- The nodes of a lawful formula lie as they should. Assumes nothing.
use Rattle.std.proofs.Common.{◌≡◌, ℕ, suc, ◌+◌, ◌<◌, ◌≤◌, true, ◌&&◌, T, leb, List, [], length, get_or, sym, refl, ap, ◌∙◌, subst, ⊎_elim, arith, leb→le}
use Rattle.std.proofs.lemmas.Bool.{cases_lt}
use Rattle.logic.specs.declared.nodes.Node.{Node}
use Rattle.logic.specs.Limits.{max_depth}
use Rattle.logic.specs.Laid.{form, Encloses, Laid, Convex, body_of}
use Rattle.trees.specs.Trees.{inner, size}
use Rattle.trees.specs.Numbering.{Term, nodes_of, nodes_by_depth}
use Rattle.trees.specs.Lawful.{closed, depth_of, monotone, lawful, node_at, Lies, LawfulLie}
use Rattle.trees.proofs.Segments.{Range}
use Rattle.trees.proofs.Laying.{by_number, by_depth, around_at, Lays, lays_whole, node_past, root, Deep, deep}
use Rattle.trees.proofs.Parts.{Parted, parts}
use Rattle.trees.proofs.Scopes.{Scoped, scoped}
use Rattle.trees.proofs.Variables.{both, Names, Named, names}
use Rattle.trees.proofs.Ties.{Counted, Tied, tied}

module _ (t : Term) where
  abbrev node : ℕ → Node
  node = node_at (nodes_of t)

  abbrev outer : ℕ → List ℕ
  outer = around_at by_number t

  -- the binders around each node, by depth
  abbrev pub scope_of : ℕ → ℕ → ℕ
  scope_of j e = get_or (outer j) e 0

  -- what holds of every node of the whole
  everywhere : (P : ℕ → Type 0) → Range P 0 (size t) → (j : ℕ) → j < size t → P j
  everywhere P h j l = h.each j (omega arith) (omega arith)

  laid_whole : Lays by_number node outer t 0 0 true []
  laid_whole = lays_whole by_number t

  part_of : (j : ℕ) → j < size t → Parted node outer j
  part_of = everywhere (Parted node outer) (parts node outer t 0 0 true [] laid_whole)

  binders_of : (j : ℕ) → j < size t → Scoped node outer (size t) j
  binders_of = everywhere (Scoped node outer (size t)) (scoped node outer (size t) t 0 0 true [] (omega arith) laid_whole (λ e l. absurd (omega arith)))

  deep_in : (d : ℕ) → depth_of t ≤ d → (j : ℕ) → j < size t → Deep by_number node outer d j
  deep_in d l = everywhere (Deep by_number node outer d) (deep by_number node outer d t 0 0 true [] (omega arith) laid_whole)

  depth_of_lem : (j : ℕ) → j < size t → (node j).depth ≡ length (outer j)
  depth_of_lem j l = (deep_in (depth_of t) (omega arith) j l).depth

  enclosed : (j e : ℕ) → j < size t → e < (node j).depth → Encloses node (size t) scope_of j e (scope_of j e)
  enclosed j e l h =
      let b = binders_of j l e (subst (λ d. e < d) (depth_of_lem j l) h) in
      record { known = b.known; later = b.behind; is_one = b.is_one; place = b.place; outer = b.further }

  named : T (closed t 0) → T (monotone t true []) → (j : ℕ) → j < size t → Named node outer j
  named c m = everywhere (Named node outer) (names node outer t 0 0 true [] [] laid_whole c m (record { many = refl; each = λ e l. absurd (omega arith) }))

  -- the binder of a variable has the variable's place as its depth
  tells : (j b : ℕ) → j < size t → Names node outer j b →
      ((node b).depth < (node j).depth) × (scope_of j (node b).depth ≡ b) × ((node (body_of (form node b))).sign ≡ (node j).sign)
  tells j b l v =
      let r = binders_of j l v.place v.within in
      let e : (node b).depth ≡ v.place = ap (λ i. (node i).depth) v.is ∙ r.place in
      (omega (arith, e, depth_of_lem j l, v.within), ap (scope_of j) e ∙ sym v.is, v.sign)

  laid : T (closed t 0) → T (monotone t true []) → Laid node (size t) scope_of
  laid c m = record {
    below = λ j k p l o. (part_of j l k p o).below;
    depths = λ j k p l o. (part_of j l k p o).depths;
    signs = λ j k p l o. (part_of j l k p o).signs;
    within = λ j k p l o. (part_of j l k p o).within;
    opened = λ j k p l o. (part_of j l k p o).opened;
    encloses = enclosed;
    variable = λ j b l e. tells j b l (named c m j l b e);
  }

  convex : Convex node (size t) scope_of
  convex k i e l h g f = ⊎_elim here later (cases_lt i (suc k))
    where
      here : i < suc k → (e < (node i).depth) × (scope_of i e ≡ scope_of k e)
      here lt = let is : k ≡ i = omega arith in subst (λ x. (e < (node x).depth) × (scope_of x e ≡ scope_of k e)) is (h, refl)

      later : k < i → (e < (node i).depth) × (scope_of i e ≡ scope_of k e)
      later gt =
          let b = binders_of k l e (subst (λ d. e < d) (depth_of_lem k l) h) in
          let r = b.between i gt f in
          (omega (arith, depth_of_lem i (omega (arith, b.known)), r.0), r.1)

  shallow : depth_of t ≤ max_depth → (j : ℕ) → (node j).depth ≤ max_depth
  shallow h j = ⊎_elim within past (cases_lt j (size t))
    where
      within : j < size t → (node j).depth ≤ max_depth
      within l = let r = deep_in max_depth h j l in omega (arith, r.depth, r.most)

      past : size t ≤ j → (node j).depth ≤ max_depth
      past l = let d : (node j).depth ≡ 0 = ap (λ (x : Node). x.depth) (node_past t j l) in omega arith

  lies : T (lawful t) → Lies t
  lies h =
      let r = both (closed t 0) (leb (depth_of t) max_depth && monotone t true []) h in
      let q = both (leb (depth_of t) max_depth) (monotone t true []) r.1 in
      let top : 0 + inner t ≡ inner t = omega arith in
      let ψ = node_at (nodes_by_depth t) in
      let outer' = around_at by_depth t in
      let none : Counted [] [] = record { many = refl; each = λ e l. absurd (omega arith) } in
      record {
        scope = scope_of;
        laid = laid r.0 q.1;
        convex = convex;
        tied = everywhere (Tied node ψ outer outer') (tied node ψ outer outer' t 0 0 true [] [] none r.0 laid_whole (lays_whole by_depth t));
        root = subst (λ j. (node j).depth ≡ 0) top (root by_number node outer t 0 0 true [] laid_whole).depth;
        shallow = shallow (leb→le (depth_of t) max_depth q.0);
      }

pub lawful_lie : LawfulLie
lawful_lie = lies
