-- The nodes with variables by depth are those with variables by number, but for the variables. Assumes nothing.
use Rattle.std.proofs.Common.{◌≡◌, ℕ, suc, ◌+◌, ◌<◌, Bool, true, false, T, List, [], ◌∷◌, ◌++◌, length, get_or, sym, refl, ap, ◌∙◌, subst, ⊎_elim, arith, ltb→lt}
use Rattle.std.proofs.lemmas.List.{length_push, get_or_push, get_or_append_left}
use Rattle.std.proofs.lemmas.Bool.{cases_lt}
use Rattle.logic.specs.declared.nodes.Kind.{Kind}
use Rattle.logic.specs.declared.nodes.Kind.TheVariants as kind
use Rattle.logic.specs.declared.nodes.Node.{Node}
use Rattle.trees.specs.Trees.{Leaf, verum, falsum, final, named, Unary, negation, diamond, box_all, all_next, eventually, always, Binary, conjunction, disjunction, exists_until, all_until, exists_until_by, all_until_by, leaf, one, two, binder, unary_size, binary_size, entries_size, inner, size}
use Rattle.trees.specs.Numbering.{Atom, proposition, variable, Term, leaf_kind, unary_kind, binary_kind, binder_kind, sign_below}
use Rattle.trees.specs.Lawful.{leaf_closed, closed, tie_kind, tie}
use Rattle.trees.proofs.Segments.{Range, range_none, range_join, range_more}
use Rattle.trees.proofs.Laying.{by_number, by_depth, Stands, Lays}
use Rattle.trees.proofs.Variables.{both}

-- only a variable is changed
unary_tie : (scope : ℕ → ℕ) (u : Unary ℕ) (m a : ℕ) → unary_kind u m a ≡ tie_kind scope (unary_kind u m a)
unary_tie scope negation m a = refl
unary_tie scope (diamond g) m a = refl
unary_tie scope (box_all g) m a = refl
unary_tie scope (all_next g) m a = refl
unary_tie scope eventually m a = refl
unary_tie scope always m a = refl

binary_tie : (scope : ℕ → ℕ) (o : Binary ℕ) (m a b : ℕ) → binary_kind o m a b ≡ tie_kind scope (binary_kind o m a b)
binary_tie scope conjunction m a b = refl
binary_tie scope disjunction m a b = refl
binary_tie scope (exists_until g) m a b = refl
binary_tie scope (all_until g) m a b = refl
binary_tie scope (exists_until_by g h) m a b = refl
binary_tie scope (all_until_by g h) m a b = refl

binder_tie : (scope : ℕ → ℕ) (w : Bool) (a : ℕ) → binder_kind w a ≡ tie_kind scope (binder_kind w a)
binder_tie scope true a = refl
binder_tie scope false a = refl

-- as many numbers as there are binders around, counted up from 0
pub record Counted (around count : List ℕ) : Type 0 where
  pub many : length count ≡ length around
  pub each : (e : ℕ) → e < length count → get_or count e 0 ≡ e

leaf_tie : (l : Leaf Atom) (around count : List ℕ) → Counted around count → T (leaf_closed l (length around)) →
    leaf_kind l around ≡ tie_kind (λ e. get_or around e 0) (leaf_kind l count)
leaf_tie verum around count c h = refl
leaf_tie falsum around count c h = refl
leaf_tie final around count c h = refl
leaf_tie (named (proposition p)) around count c h = refl
leaf_tie (named (variable e)) around count c h =
    let l : e < length count = omega (arith, c.many, ltb→lt e (length around) h) in
    ap (λ x. kind.Variable (get_or around x 0)) (sym (c.each e l))

-- one binder more
counted_in : (around count : List ℕ) (b : ℕ) → Counted around count → Counted (around ++ b ∷ []) (count ++ length count ∷ [])
counted_in around count b c = record {
  many = omega (arith, length_push around b, length_push count (length count), c.many);
  each = λ e l. ⊎_elim
      (λ lt. get_or_append_left count (length count ∷ []) 0 e lt ∙ c.each e lt)
      (λ le. let is : length count ≡ e = omega (arith, length_push count (length count)) in get_or_push count (length count) 0 e is ∙ is)
      (cases_lt e (length count));
}

module _ (φ ψ : ℕ → Node) (outer outer' : ℕ → List ℕ) where
  abbrev pub Tied : ℕ → Type 0
  Tied j = φ j ≡ tie (λ e. get_or (outer j) e 0) (ψ j)

  root_tied : {j : ℕ} {s : Bool} {around count : List ℕ} {K K' : Kind} → Counted around count → Stands φ outer j s around K →
      Stands ψ outer' j s count K' → K ≡ tie_kind (λ e. get_or around e 0) K' → Tied j
  root_tied {s = s} c h g e =
      h.node ∙ (λ i. record { kind = e i; depth = sym c.many i; sign = s }) ∙ (λ i. tie (λ x. get_or (sym h.scope i) x 0) (sym g.node i))

  pub tied : (t : Term) (n m : ℕ) (s : Bool) (around count : List ℕ) → Counted around count → T (closed t (length around)) →
      Lays by_number φ outer t n m s around → Lays by_depth ψ outer' t n m s count → Range Tied n (size t)
  tied (leaf l) n m s around count c o h g = range_more range_none (root_tied c h g (leaf_tie l around count c o))
  tied (one u a) n m s around count c o h g =
      let p = tied a n (m + unary_size u) (sign_below u s) around count c o h.0 g.0 in
      range_more p (root_tied c h.1 g.1 (unary_tie _ u m (n + inner a)))
  tied (two x a b) n m s around count c o h g =
      let o' = both (closed a (length around)) (closed b (length around)) o in
      let p = tied a n m s around count c o'.0 h.0 g.0 in
      let q = tied b (n + size a) (m + entries_size a + binary_size x) s around count c o'.1 h.1 g.1 in
      range_more (range_join p q) (root_tied c h.2 g.2 (binary_tie _ x (m + entries_size a) (n + inner a) (n + size a + inner b)))
  tied (binder w x a) n m s around count c o h g =
      let around' = around ++ (n + size a) ∷ [] in
      let e : suc (length around) ≡ length around' = omega (arith, length_push around (n + size a)) in
      let o' = subst (λ d. T (closed a d)) e o in
      let p = tied a n m s around' (count ++ length count ∷ []) (counted_in around count (n + size a) c) o' h.0 g.0 in
      range_more p (root_tied c h.1 g.1 (binder_tie _ w (n + inner a)))
