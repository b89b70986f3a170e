-- The binders around each node of a formula lie behind it, and all between is inside them. Assumes nothing.
use Rattle.std.proofs.Common.{◌≡◌, ℕ, suc, ◌+◌, ◌<◌, ◌≤◌, Bool, List, [], ◌∷◌, ◌++◌, length, get_or, sym, refl, ap, ◌∙◌, subst, ⊎_elim, arith}
use Rattle.std.proofs.lemmas.List.{length_push, get_or_push, get_or_append_left}
use Rattle.std.proofs.lemmas.Bool.{cases_lt}
use Rattle.logic.specs.declared.nodes.Node.{Node}
use Rattle.logic.specs.Laid.{IsBinder, form}
use Rattle.trees.specs.Trees.{leaf, one, two, binder, unary_size, binary_size, entries_size, inner, size}
use Rattle.trees.specs.Numbering.{Term, binder_kind, sign_below}
use Rattle.trees.proofs.Segments.{Range, range_none, range_join, range_more, range_map}
use Rattle.trees.proofs.Laying.{by_number, Stands, Lays, Root, stands_root, stands_form}
use Rattle.trees.proofs.Operators.{binder_manner}

module _ (φ : ℕ → Node) (outer : ℕ → List ℕ) where
  -- around the node i lie these binders, and maybe more inside them
  abbrev pub Inside : List ℕ → ℕ → Type 0
  Inside around i = (e : ℕ) → e < length around → (e < length (outer i)) × (get_or (outer i) e 0 ≡ get_or around e 0)

  root_inside : {j : ℕ} {s : Bool} {around : List ℕ} → Root φ outer j s around → Inside around j
  root_inside r e l = (subst (λ a. e < length a) (sym r.scope) l, ap (λ (a : List ℕ). get_or a e 0) r.scope)

  inside_fewer : (around : List ℕ) (b i : ℕ) → Inside (around ++ b ∷ []) i → Inside around i
  inside_fewer around b i h e l =
      let r = h e (omega (arith, length_push around b)) in
      (r.0, r.1 ∙ get_or_append_left around (b ∷ []) 0 e l)

  -- all nodes of a formula are inside the binders around it
  inside : (t : Term) (n m : ℕ) (s : Bool) (around : List ℕ) → Lays by_number φ outer t n m s around → Range (Inside around) n (size t)
  inside (leaf l) n m s around h = range_more range_none (root_inside (stands_root h))
  inside (one u a) n m s around h = range_more (inside a n (m + unary_size u) (sign_below u s) around h.0) (root_inside (stands_root h.1))
  inside (two o a b) n m s around h =
      let q = inside b (n + size a) (m + entries_size a + binary_size o) s around h.1 in
      range_more (range_join (inside a n m s around h.0) q) (root_inside (stands_root h.2))
  inside (binder w x a) n m s around h =
      let q = inside a n m s (around ++ (n + size a) ∷ []) h.0 in
      range_more (range_map (inside_fewer around (n + size a)) q) (root_inside (stands_root h.1))

  module _ (N : ℕ) where
    -- b is the binder of the depth e among these, and every node from p up to it is inside it
    pub record Around (around : List ℕ) (p e b : ℕ) : Type 0 where
      pub behind : p ≤ b
      pub known : b < N
      pub is_one : IsBinder (form φ b)
      pub place : (φ b).depth ≡ e
      pub further : (x : ℕ) → x < e → get_or (outer b) x 0 ≡ get_or around x 0
      pub between : (i : ℕ) → p ≤ i → i < b → (e < length (outer i)) × (get_or (outer i) e 0 ≡ b)

    abbrev pub Binders : List ℕ → ℕ → Type 0
    Binders around p = (e : ℕ) → e < length around → Around around p e (get_or around e 0)

    -- from an earlier place on, if all until the later one is inside
    earlier : (around : List ℕ) (p p' : ℕ) → p' ≤ p → ((i : ℕ) → p' ≤ i → i < p → Inside around i) → Binders around p → Binders around p'
    earlier around p p' le f h e l =
        let r = h e l in
        record {
          behind = omega (arith, r.behind);
          known = r.known;
          is_one = r.is_one;
          place = r.place;
          further = r.further;
          between = λ i g lt. ⊎_elim (λ before. f i g before e l) (λ after. r.between i after lt) (cases_lt i p);
        }

    -- one binder more
    further_in : {b : ℕ} {s : Bool} {around : List ℕ} (w : Bool) (k : ℕ) → b < N → Stands φ outer b s around (binder_kind w k) →
        Binders around b → Binders (around ++ b ∷ []) b
    further_in {b} {s} {around} w k known st h e l = ⊎_elim old new (cases_lt e (length around))
      where
        wider : (x : ℕ) → x < length around → get_or around x 0 ≡ get_or (around ++ b ∷ []) x 0
        wider x lt = sym (get_or_append_left around (b ∷ []) 0 x lt)

        old : e < length around → Around (around ++ b ∷ []) b e (get_or (around ++ b ∷ []) e 0)
        old lt =
            let r = h e lt in
            subst (Around (around ++ b ∷ []) b e) (wider e lt) (record {
              behind = r.behind;
              known = r.known;
              is_one = r.is_one;
              place = r.place;
              further = λ x g. r.further x g ∙ wider x (omega arith);
              between = r.between;
            })

        new : length around ≤ e → Around (around ++ b ∷ []) b e (get_or (around ++ b ∷ []) e 0)
        new le =
            let is : length around ≡ e = omega (arith, length_push around b) in
            subst (Around (around ++ b ∷ []) b e) (sym (get_or_push around b 0 e is)) (record {
              behind = omega arith;
              known = known;
              is_one = subst IsBinder (sym (stands_form st ∙ binder_manner w k)) tt;
              place = (stands_root st).depth ∙ is;
              further = λ x g. ap (λ (a : List ℕ). get_or a x 0) st.scope ∙ wider x (omega arith);
              between = λ i g lt. absurd (omega arith);
            })

    -- each node has its binders behind it
    abbrev pub Scoped : ℕ → Type 0
    Scoped j = Binders (outer j) (suc j)

    root_scoped : {j : ℕ} {s : Bool} {around : List ℕ} (p : ℕ) → p ≡ suc j → Root φ outer j s around → Binders around p → Scoped j
    root_scoped {j} {s} {around} p e r h = subst (λ a. Binders a (suc j)) (sym r.scope) (subst (Binders around) e h)

    -- the same from the root on
    from_root : {j : ℕ} {s : Bool} {around : List ℕ} (p q : ℕ) → p ≡ suc j → q ≡ j → Root φ outer j s around → Binders around p → Binders around q
    from_root {j} {s} {around} p q e f r h = earlier around p q (omega arith) (λ i c d. subst (Inside around) (omega arith) (root_inside r)) h

    pub scoped : (t : Term) (n m : ℕ) (s : Bool) (around : List ℕ) → n + size t ≤ N → Lays by_number φ outer t n m s around →
        Binders around (n + size t) → Range Scoped n (size t)
    scoped (leaf l) n m s around le h f = range_more range_none (root_scoped (n + 1) (omega arith) (stands_root h) f)
    scoped (one u a) n m s around le h f =
        let r = stands_root h.1 in
        let p = n + suc (size a) in
        let g = from_root p (n + size a) (omega arith) refl r f in
        range_more (scoped a n (m + unary_size u) (sign_below u s) around (omega arith) h.0 g) (root_scoped p (omega arith) r f)
    scoped (two o a b) n m s around le h f =
        let r = stands_root h.2 in
        let m' = m + entries_size a + binary_size o in
        let p = n + suc (size a + size b) in
        let q = n + size a + size b in
        let g = from_root p q (omega arith) (omega arith) r f in
        let g' = earlier around q (n + size a) (omega arith) (inside b (n + size a) m' s around h.1).each g in
        let left = scoped a n m s around (omega arith) h.0 g' in
        let right = scoped b (n + size a) m' s around (omega arith) h.1 g in
        range_more (range_join left right) (root_scoped p (omega arith) r f)
    scoped (binder w x a) n m s around le h f =
        let r = stands_root h.1 in
        let p = n + suc (size a) in
        let g = from_root p (n + size a) (omega arith) refl r f in
        let g' = further_in w (n + inner a) (omega arith) h.1 g in
        range_more (scoped a n m s (around ++ (n + size a) ∷ []) (omega arith) h.0 g') (root_scoped p (omega arith) r f)
