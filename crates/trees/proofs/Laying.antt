-- What the nodes of a formula are, number by number, with the binders around each. Assumes nothing.
use Rattle.std.proofs.Common.{◌≡◌, ℕ, zero, suc, ◌+◌, ◌≤◌, Bool, true, List, [], ◌∷◌, ◌++◌, length, get_or, Some, sym, refl, ap, ◌∙◌, subst, arith, length-append}
use Rattle.std.specs.List.{slice_get}
use Rattle.std.proofs.lemmas.List.{get_or_past}
use Rattle.logic.specs.declared.nodes.Kind.{Kind}
use Rattle.logic.specs.declared.nodes.Node.{Node}
use Rattle.logic.specs.Holding.{manner}
use Rattle.logic.specs.Laid.{form}
use Rattle.trees.specs.Trees.{leaf, one, two, binder, unary_size, binary_size, entries_size, inner, size}
use Rattle.trees.specs.Numbering.{Term, leaf_kind, unary_kind, binary_kind, binder_kind, sign_below, node_in, nodes_by, nodes_of}
use Rattle.trees.specs.Lawful.{depth_of, blank_node, node_at}
use Rattle.trees.proofs.Lengths.{nodes_length}
use Rattle.trees.proofs.Segments.{Segment, segment_push, two_parts, segment_from, Range, range_none, range_join, range_more}

-- a variable names its binder by number, or by depth
abbrev pub by_number : ℕ → ℕ → ℕ
by_number depth number = number

abbrev pub by_depth : ℕ → ℕ → ℕ
by_depth depth number = depth

-- the binders around each node of a formula, in the order of the nodes
abbrev pub arounds_by : (ℕ → ℕ → ℕ) → Term → ℕ → List ℕ → List (List ℕ)
arounds_by tag (leaf l) n around = around ∷ []
arounds_by tag (one u a) n around = arounds_by tag a n around ++ around ∷ []
arounds_by tag (two o a b) n around = arounds_by tag a n around ++ arounds_by tag b (n + size a) around ++ around ∷ []
arounds_by tag (binder w x a) n around = arounds_by tag a n (around ++ tag (length around) (n + size a) ∷ []) ++ around ∷ []

pub arounds_length : (tag : ℕ → ℕ → ℕ) (t : Term) (n : ℕ) (around : List ℕ) → length (arounds_by tag t n around) ≡ size t
arounds_length tag (leaf l) n around = refl
arounds_length tag (one u a) n around = simp length-append (omega (arith, arounds_length tag a n around))
arounds_length tag (two o a b) n around = simp length-append (omega (arith, arounds_length tag a n around, arounds_length tag b (n + size a) around))
arounds_length tag (binder w x a) n around =
    simp length-append (omega (arith, arounds_length tag a n (around ++ tag (length around) (n + size a) ∷ [])))

-- the node j is of this kind and sign, with these binders around it
pub record Stands (φ : ℕ → Node) (outer : ℕ → List ℕ) (j : ℕ) (s : Bool) (around : List ℕ) (K : Kind) : Type 0 where
  pub node : φ j ≡ node_in around s K
  pub scope : outer j ≡ around

module _ (tag : ℕ → ℕ → ℕ) (φ : ℕ → Node) (outer : ℕ → List ℕ) where
  -- the nodes of the formula have the numbers from n on, its entries those from m on
  abbrev pub Lays : Term → (n m : ℕ) → Bool → List ℕ → Type 0
  Lays (leaf l) n m s around = Stands φ outer (n + 0) s around (leaf_kind l around)
  Lays (one u a) n m s around =
      Lays a n (m + unary_size u) (sign_below u s) around × Stands φ outer (n + size a) s around (unary_kind u m (n + inner a))
  Lays (two o a b) n m s around =
      Lays a n m s around × Lays b (n + size a) (m + entries_size a + binary_size o) s around
      × Stands φ outer (n + (size a + size b)) s around (binary_kind o (m + entries_size a) (n + inner a) (n + size a + inner b))
  Lays (binder w x a) n m s around =
      Lays a n m s (around ++ tag (length around) (n + size a) ∷ []) × Stands φ outer (n + size a) s around (binder_kind w (n + inner a))

  -- a formula whose nodes are a part of the list lies there
  lays : (t : Term) (n m : ℕ) (s : Bool) (around : List ℕ) →
      Segment (λ j x. φ j ≡ x) n (nodes_by tag t n m s around) → Segment (λ j x. outer j ≡ x) n (arounds_by tag t n around) → Lays t n m s around
  lays (leaf l) n m s around h g = record {
    node = subst (λ j. φ j ≡ node_in around s (leaf_kind l around)) (omega arith) h.0;
    scope = subst (λ j. outer j ≡ around) (omega arith) g.0;
  }
  lays (one u a) n m s around h g =
      let m' = m + unary_size u in
      let s' = sign_below u s in
      let p = segment_push (λ j x. φ j ≡ x) n (size a) (nodes_by tag a n m' s' around) _ (nodes_length tag a n m' s' around) h in
      let q = segment_push (λ j x. outer j ≡ x) n (size a) (arounds_by tag a n around) _ (arounds_length tag a n around) g in
      (lays a n m' s' around p.0 q.0, record { node = p.1; scope = q.1 })
  lays (two o a b) n m s around h g =
      let n' = n + size a in
      let m' = m + entries_size a + binary_size o in
      let p = two_parts (λ j x. φ j ≡ x) n (size a) (size b) _ _ _ (nodes_length tag a n m s around) (nodes_length tag b n' m' s around) h in
      let q = two_parts (λ j x. outer j ≡ x) n (size a) (size b) _ _ _ (arounds_length tag a n around) (arounds_length tag b n' around) g in
      (lays a n m s around p.0 q.0, lays b n' m' s around p.1 q.1, record { node = p.2; scope = q.2 })
  lays (binder w x a) n m s around h g =
      let around' = around ++ tag (length around) (n + size a) ∷ [] in
      let p = segment_push (λ j x. φ j ≡ x) n (size a) (nodes_by tag a n m s around') _ (nodes_length tag a n m s around') h in
      let q = segment_push (λ j x. outer j ≡ x) n (size a) (arounds_by tag a n around') _ (arounds_length tag a n around') g in
      (lays a n m s around' p.0 q.0, record { node = p.1; scope = q.1 })

get_d_nth : {X : Type 0} (d : X) (xs : List X) (i : ℕ) (x : X) → slice_get xs i ≡ Some x → get_or xs i d ≡ x
get_d_nth d [] i x e = cc
get_d_nth d (y ∷ ys) zero x e = cc
get_d_nth d (y ∷ ys) (suc i) x e = get_d_nth d ys i x e

get_d_segment : {X : Type 0} (d : X) (xs : List X) → Segment (λ j x. get_or xs j d ≡ x) 0 xs
get_d_segment d xs = segment_from (λ j x. get_or xs j d ≡ x) 0 xs (λ i x e. subst (λ k. get_or xs k d ≡ x) (omega arith) (get_d_nth d xs i x e))

-- the binders around each node of a formula
abbrev pub around_at : (ℕ → ℕ → ℕ) → Term → ℕ → List ℕ
around_at tag t j = get_or (arounds_by tag t 0 []) j []

-- a whole formula lies from 0 on
pub lays_whole : (tag : ℕ → ℕ → ℕ) (t : Term) → Lays tag (node_at (nodes_by tag t 0 0 true [])) (around_at tag t) t 0 0 true []
lays_whole tag t =
    let nodes = nodes_by tag t 0 0 true [] in
    lays tag (node_at nodes) (around_at tag t) t 0 0 true [] (get_d_segment blank_node nodes) (get_d_segment [] (arounds_by tag t 0 []))

-- past the last node there is nothing
pub node_past : (t : Term) (j : ℕ) → size t ≤ j → node_at (nodes_of t) j ≡ blank_node
node_past t j l = get_or_past (nodes_of t) j blank_node (subst (λ c. c ≤ j) (sym (nodes_length by_number t 0 0 true [])) l)

-- the root of a formula that lies somewhere
pub record Root (φ : ℕ → Node) (outer : ℕ → List ℕ) (j : ℕ) (s : Bool) (around : List ℕ) : Type 0 where
  pub depth : (φ j).depth ≡ length around
  pub sign : (φ j).sign ≡ s
  pub scope : outer j ≡ around

module _ {φ : ℕ → Node} {outer : ℕ → List ℕ} {j : ℕ} {s : Bool} {around : List ℕ} {K : Kind} where
  pub stands_root : Stands φ outer j s around K → Root φ outer j s around
  stands_root h = record { depth = ap (λ (x : Node). x.depth) h.node; sign = ap (λ (x : Node). x.sign) h.node; scope = h.scope }

  pub stands_form : Stands φ outer j s around K → form φ j ≡ manner K
  stands_form h = ap (λ (x : Node). manner x.kind) h.node

module _ (tag : ℕ → ℕ → ℕ) (φ : ℕ → Node) (outer : ℕ → List ℕ) where
  pub root : (t : Term) (n m : ℕ) (s : Bool) (around : List ℕ) → Lays tag φ outer t n m s around → Root φ outer (n + inner t) s around
  root (leaf l) n m s around h = stands_root h
  root (one u a) n m s around h = stands_root h.1
  root (two o a b) n m s around h = stands_root h.2
  root (binder w x a) n m s around h = stands_root h.1

  -- the depth of a node is the number of binders around it, and these are at most d
  pub record Deep (d j : ℕ) : Type 0 where
    pub depth : (φ j).depth ≡ length (outer j)
    pub most : length (outer j) ≤ d

  root_deep : {d j : ℕ} {s : Bool} {around : List ℕ} → length around ≤ d → Root φ outer j s around → Deep d j
  root_deep {d} l r = record { depth = r.depth ∙ ap length (sym r.scope); most = subst (λ a. length a ≤ d) (sym r.scope) l }

  pub deep : (d : ℕ) (t : Term) (n m : ℕ) (s : Bool) (around : List ℕ) → length around + depth_of t ≤ d →
      Lays tag φ outer t n m s around → Range (Deep d) n (size t)
  deep d (leaf l) n m s around le h = range_more range_none (root_deep (omega arith) (stands_root h))
  deep d (one u a) n m s around le h =
      range_more (deep d a n (m + unary_size u) (sign_below u s) around le h.0) (root_deep (omega arith) (stands_root h.1))
  deep d (two o a b) n m s around le h =
      let p = deep d a n m s around (omega arith) h.0 in
      let q = deep d b (n + size a) (m + entries_size a + binary_size o) s around (omega arith) h.1 in
      range_more (range_join p q) (root_deep (omega arith) (stands_root h.2))
  deep d (binder w x a) n m s around le h =
      let y = tag (length around) (n + size a) in
      let p = deep d a n m s (around ++ y ∷ []) (omega (arith, length-append around (y ∷ []))) h.0 in
      range_more p (root_deep (omega arith) (stands_root h.1))
