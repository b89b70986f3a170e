-- A node lies with its parts as it should. Assumes nothing.
use Rattle.std.proofs.Common.{◌≡◌, ℕ, suc, ◌+◌, ◌<◌, Bool, List, [], ◌∷◌, ◌++◌, length, get_or, sym, ap, ◌∙◌, subst, ⊎_elim, arith}
use Rattle.std.proofs.lemmas.List.{length_push, get_or_push, get_or_append_left}
use Rattle.logic.specs.declared.nodes.Kind.{Kind}
use Rattle.logic.specs.declared.nodes.Node.{Node}
use Rattle.logic.specs.Holding.{manner, Part}
use Rattle.logic.specs.Laid.{under, IsBinder, deeper, form}
use Rattle.trees.specs.Trees.{Unary, Binary, leaf, one, two, binder, unary_size, binary_size, entries_size, inner, size}
use Rattle.trees.specs.Numbering.{Term, unary_kind, binary_kind, binder_kind, sign_below}
use Rattle.trees.proofs.Segments.{Range, range_none, range_join, range_more}
use Rattle.trees.proofs.Laying.{by_number, Stands, Lays, Root, stands_root, stands_form, root}
use Rattle.trees.proofs.Operators.{Plain, leaf_part, unary_part, unary_plain, binary_part, binary_plain, binder_part, binder_manner, plain_deeper, plain_binds_none}

module _ (φ : ℕ → Node) (outer : ℕ → List ℕ) where
  -- k is a part of j as it should be, under a `not` if p is false
  pub record PartOf (j k : ℕ) (p : Bool) : Type 0 where
    pub below : k < j
    pub depths : (φ k).depth ≡ deeper (form φ j) (φ j).depth
    pub signs : (φ k).sign ≡ under (φ j).sign p
    pub within : (x : ℕ) → x < (φ j).depth → get_or (outer k) x 0 ≡ get_or (outer j) x 0
    pub opened : IsBinder (form φ j) → get_or (outer k) (φ j).depth 0 ≡ j

  abbrev pub Parted : ℕ → Type 0
  Parted j = (k : ℕ) (p : Bool) → Part (φ j).kind k p → PartOf j k p

  at_kind : {j : ℕ} {s : Bool} {around : List ℕ} {K : Kind} → Stands φ outer j s around K → (k : ℕ) (p : Bool) → Part (φ j).kind k p → Part K k p
  at_kind h k p = subst (λ (x : Node). Part x.kind k p) h.node

  module _ {j : ℕ} {s : Bool} {around : List ℕ} (k : ℕ) (p : Bool) where
    -- a node that is no binder
    plain : {K : Kind} {s' : Bool} → Stands φ outer j s around K → Plain (manner K) → Root φ outer k s' around → k < j → s' ≡ under s p → PartOf j k p
    plain {K} h o r l e = record {
      below = l;
      depths = r.depth ∙ sym (ap (λ (x : Node). deeper (manner x.kind) x.depth) h.node ∙ plain_deeper (manner K) (length around) o);
      signs = r.sign ∙ e ∙ ap (λ (x : Node). under x.sign p) (sym h.node);
      within = λ x lt. ap (λ (a : List ℕ). get_or a x 0) (r.scope ∙ sym h.scope);
      opened = λ b. absurd (plain_binds_none (manner K) o (subst IsBinder (stands_form h) b));
    }

    -- a binder
    opens : (w : Bool) → Stands φ outer j s around (binder_kind w k) → Root φ outer k s (around ++ j ∷ []) → k < j → s ≡ under s p → PartOf j k p
    opens w h r l e =
        let d = (stands_root h).depth in
        let more : length (around ++ j ∷ []) ≡ suc (φ j).depth = omega (arith, length_push around j) in
        record {
          below = l;
          depths = r.depth ∙ more ∙ ap (λ m. deeper m (φ j).depth) (sym (stands_form h ∙ binder_manner w k));
          signs = r.sign ∙ e ∙ ap (λ (x : Node). under x.sign p) (sym h.node);
          within = λ x lt.
              let same = get_or_append_left around (j ∷ []) 0 x (subst (λ c. x < c) d lt) in
              ap (λ (a : List ℕ). get_or a x 0) r.scope ∙ same ∙ ap (λ (a : List ℕ). get_or a x 0) (sym h.scope);
          opened = λ b. ap (λ (a : List ℕ). get_or a (φ j).depth 0) r.scope ∙ get_or_push around j 0 (φ j).depth (sym d);
        }

  -- the three ways to have parts
  unary_parted : {j : ℕ} {s : Bool} {around : List ℕ} (u : Unary ℕ) (m a : ℕ) → a < j → Stands φ outer j s around (unary_kind u m a) →
      Root φ outer a (sign_below u s) around → Parted j
  unary_parted {j} {s} {around} u m a l h r k p o =
      let c = unary_part u m a k p s (at_kind h k p o) in
      plain k p h (unary_plain u m a) (subst (λ i. Root φ outer i (sign_below u s) around) (sym c.0) r) (omega (arith, c.0)) c.1

  binary_parted : {j : ℕ} {s : Bool} {around : List ℕ} (q : Binary ℕ) (m a b : ℕ) → a < j → b < j → Stands φ outer j s around (binary_kind q m a b) →
      Root φ outer a s around → Root φ outer b s around → Parted j
  binary_parted {j} {s} {around} q m a b la lb h ra rb k p o =
      let c = binary_part q m a b k p s (at_kind h k p o) in
      let here : ℕ → Type 0 = λ i. Root φ outer i s around × (i < j) in
      let r : here k = ⊎_elim (λ e. subst here (sym e) (ra, la)) (λ e. subst here (sym e) (rb, lb)) c.0 in
      plain k p h (binary_plain q m a b) r.0 r.1 c.1

  binder_parted : {j : ℕ} {s : Bool} {around : List ℕ} (w : Bool) (a : ℕ) → a < j → Stands φ outer j s around (binder_kind w a) →
      Root φ outer a s (around ++ j ∷ []) → Parted j
  binder_parted {j} {s} {around} w a l h r k p o =
      let c = binder_part w a k p s (at_kind h k p o) in
      let h' = subst (λ i. Stands φ outer j s around (binder_kind w i)) (sym c.0) h in
      opens k p w h' (subst (λ i. Root φ outer i s (around ++ j ∷ [])) (sym c.0) r) (omega (arith, c.0)) c.1

  pub parts : (t : Term) (n m : ℕ) (s : Bool) (around : List ℕ) → Lays by_number φ outer t n m s around → Range Parted n (size t)
  parts (leaf l) n m s around h = range_more range_none (λ k p o. absurd (leaf_part l around k p (at_kind h k p o)))
  parts (one u a) n m s around h =
      let r = root by_number φ outer a n (m + unary_size u) (sign_below u s) around h.0 in
      range_more (parts a n (m + unary_size u) (sign_below u s) around h.0) (unary_parted u m (n + inner a) (omega arith) h.1 r)
  parts (two o a b) n m s around h =
      let m' = m + entries_size a + binary_size o in
      let ra = root by_number φ outer a n m s around h.0 in
      let rb = root by_number φ outer b (n + size a) m' s around h.1 in
      let here = binary_parted o (m + entries_size a) (n + inner a) (n + size a + inner b) (omega arith) (omega arith) h.2 ra rb in
      range_more (range_join (parts a n m s around h.0) (parts b (n + size a) m' s around h.1)) here
  parts (binder w x a) n m s around h =
      let around' = around ++ (n + size a) ∷ [] in
      let r = root by_number φ outer a n m s around' h.0 in
      range_more (parts a n m s around' h.0) (binder_parted w (n + inner a) (omega arith) h.1 r)
