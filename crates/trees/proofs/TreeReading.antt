-- Formulas are read back from their nodes and entries. Assumes nothing.
use Rattle.std.proofs.Common.{◌≡◌, ℕ, zero, suc, ◌+◌, ◌<◌, ◌≤◌, Bool, true, false, T, List, [], ◌∷◌, ◌++◌, length, get_or, Some, refl, ap, ◌∙◌, subst, ⊎_elim, arith, ltb→lt, length-append}
use Rattle.std.specs.List.{slice_get}
use Rattle.std.proofs.lemmas.List.{length_push, get_or_push, get_or_append_left}
use Rattle.std.proofs.lemmas.Bool.{cases_lt}
use Rattle.logic.specs.declared.events.EventFormula.{EventFormula}
use Rattle.logic.specs.declared.nodes.Kind.{Kind}
use Rattle.logic.specs.declared.nodes.Node.{Node}
use Rattle.trees.specs.Trees.{Leaf, verum, falsum, final, named, Unary, negation, diamond, box_all, all_next, eventually, always, Binary, conjunction, disjunction, exists_until, all_until, exists_until_by, all_until_by, leaf, one, two, binder, unary_size, binary_size, entries_size, inner, size}
use Rattle.trees.specs.Numbering.{Atom, proposition, variable, Term, unary_entries, binary_entries, entries_from, entries_of, leaf_kind, unary_kind, binary_kind, binder_kind, sign_below, nodes_of}
use Rattle.trees.specs.Lawful.{leaf_closed, closed, node_at}
use Rattle.trees.specs.Reading.{tree_of, tree_in, ReadsBack}
use Rattle.trees.proofs.Lengths.{unary_entries_length, binary_entries_length, entries_length}
use Rattle.trees.proofs.Segments.{Segment, segment_split, segment_from}
use Rattle.trees.proofs.Laying.{by_number, around_at, Stands, Lays, lays_whole}
use Rattle.trees.proofs.Variables.{both}
use Rattle.trees.proofs.EventReading.{Entry, guard_back, guards_back}

module _ (entries : List EventFormula) where
  -- one node, read back over the trees of its parts
  module _ (place : ℕ → ℕ) (part : ℕ → Term) where
    unary_back : (u : Unary ℕ) (m a : ℕ) → Segment (Entry entries) m (unary_entries u m) → tree_of entries place (unary_kind u m a) part ≡ one u (part a)
    unary_back negation m a h = refl
    unary_back (diamond g) m a h = ap (λ x. one (diamond x) (part a)) (guard_back entries g m h)
    unary_back (box_all g) m a h = ap (λ x. one (box_all x) (part a)) (guard_back entries g m h)
    unary_back (all_next g) m a h = ap (λ x. one (all_next x) (part a)) (guard_back entries g m h)
    unary_back eventually m a h = refl
    unary_back always m a h = refl

    binary_back : (o : Binary ℕ) (m a b : ℕ) → Segment (Entry entries) m (binary_entries o m) →
        tree_of entries place (binary_kind o m a b) part ≡ two o (part a) (part b)
    binary_back conjunction m a b h = refl
    binary_back disjunction m a b h = refl
    binary_back (exists_until g) m a b h = ap (λ x. two (exists_until x) (part a) (part b)) (guard_back entries g m h)
    binary_back (all_until g) m a b h = ap (λ x. two (all_until x) (part a) (part b)) (guard_back entries g m h)
    binary_back (exists_until_by g g') m a b h = let p = guards_back entries g g' m h in λ i. two (exists_until_by (p.0 i) (p.1 i)) (part a) (part b)
    binary_back (all_until_by g g') m a b h = let p = guards_back entries g g' m h in λ i. two (all_until_by (p.0 i) (p.1 i)) (part a) (part b)

    binder_back : (w : Bool) (x : Unit {0}) (a : ℕ) → tree_of entries place (binder_kind w a) part ≡ binder w x (part a)
    binder_back true x a = refl
    binder_back false x a = refl

    leaf_back : (l : Leaf Atom) (around : List ℕ) → T (leaf_closed l (length around)) → ((e : ℕ) → e < length around → place (get_or around e 0) ≡ e) →
        tree_of entries place (leaf_kind l around) part ≡ leaf l
    leaf_back verum around c h = refl
    leaf_back falsum around c h = refl
    leaf_back final around c h = refl
    leaf_back (named (proposition p)) around c h = refl
    leaf_back (named (variable e)) around c h = ap (λ x. leaf (named (variable x))) (h e (ltb→lt e (length around) c))

  module _ (nodes : List Node) (outer : ℕ → List ℕ) where
    -- the depth of a binder, which is its place among those around
    abbrev placed : ℕ → ℕ
    placed b = (node_at nodes b).depth

    abbrev Placed : List ℕ → Type 0
    Placed around = (e : ℕ) → e < length around → placed (get_or around e 0) ≡ e

    placed_in : (around : List ℕ) (b : ℕ) → placed b ≡ length around → Placed around → Placed (around ++ b ∷ [])
    placed_in around b d h e l = ⊎_elim
        (λ lt. ap placed (get_or_append_left around (b ∷ []) 0 e lt) ∙ h e lt)
        (λ le. let is : length around ≡ e = omega (arith, length_push around b) in ap placed (get_or_push around b 0 e is) ∙ d ∙ is)
        (cases_lt e (length around))

    -- a node that was read
    reads : (c : ℕ) {j : ℕ} {s : Bool} {around : List ℕ} {K : Kind} → Stands (node_at nodes) outer j s around K →
        tree_in (suc c) nodes entries j ≡ tree_of entries placed K (tree_in c nodes entries)
    unfolding tree_in
    reads c h = ap (λ (x : Node). tree_of entries placed x.kind (tree_in c nodes entries)) h.node

    -- the formula that lies from n on, read back by more turns than it has nodes before its root
    tree_back : (t : Term) (n m : ℕ) (s : Bool) (around : List ℕ) (c : ℕ) → Lays by_number (node_at nodes) outer t n m s around →
        Segment (Entry entries) m (entries_from t m) → T (closed t (length around)) → Placed around → inner t ≤ c →
        tree_in (suc c) nodes entries (n + inner t) ≡ t
    tree_back (leaf l) n m s around c h k o p le =
        reads c h ∙ leaf_back placed (tree_in c nodes entries) l around o p
    tree_back (one u a) n m s around zero h k o p le = absurd (omega arith)
    tree_back (one u a) n m s around (suc c) h k o p le =
        let m' = m + unary_size u in
        let q = segment_split (Entry entries) m (unary_size u) (unary_entries u m) (entries_from a m') (unary_entries_length u m) k in
        reads (suc c) h.1
        ∙ unary_back placed (tree_in (suc c) nodes entries) u m (n + inner a) q.0
        ∙ ap (one u) (tree_back a n m' (sign_below u s) around c h.0 q.1 o p (omega arith))
    tree_back (two x a b) n m s around zero h k o p le = absurd (omega arith)
    tree_back (two x a b) n m s around (suc c) h k o p le =
        let o' = both (closed a (length around)) (closed b (length around)) o in
        let m' = m + entries_size a in
        let A = entries_from a m in
        let X = binary_entries x m' in
        let B = entries_from b (m' + binary_size x) in
        let el : length (A ++ X) ≡ entries_size a + binary_size x = omega (arith, length-append A X, entries_length a m, binary_entries_length x m') in
        let q = segment_split (Entry entries) m (entries_size a + binary_size x) (A ++ X) B el k in
        let r = segment_split (Entry entries) m (entries_size a) A X (entries_length a m) q.0 in
        let e : m + (entries_size a + binary_size x) ≡ m' + binary_size x = omega arith in
        let k' = subst (λ d. Segment (Entry entries) d B) e q.1 in
        let f = tree_back a n m s around c h.0 r.0 o'.0 p (omega arith) in
        let g = tree_back b (n + size a) (m' + binary_size x) s around c h.1 k' o'.1 p (omega arith) in
        reads (suc c) h.2
        ∙ binary_back placed (tree_in (suc c) nodes entries) x m' (n + inner a) (n + size a + inner b) r.1
        ∙ (λ i. two x (f i) (g i))
    tree_back (binder w x a) n m s around zero h k o p le = absurd (omega arith)
    tree_back (binder w x a) n m s around (suc c) h k o p le =
        let around' = around ++ (n + size a) ∷ [] in
        let e : suc (length around) ≡ length around' = omega (arith, length_push around (n + size a)) in
        let p' = placed_in around (n + size a) (ap (λ (y : Node). y.depth) h.1.node) p in
        reads (suc c) h.1
        ∙ binder_back placed (tree_in (suc c) nodes entries) w x (n + inner a)
        ∙ ap (binder w x) (tree_back a n m s around' c h.0 k (subst (λ d. T (closed a d)) e o) p' (omega arith))

pub reads_back : ReadsBack
reads_back t c =
    let all = segment_from (Entry (entries_of t)) 0 (entries_of t) (λ i x e. subst (λ k. slice_get (entries_of t) k ≡ Some x) (omega arith) e) in
    let lie = lays_whole by_number t in
    let r = tree_back (entries_of t) (nodes_of t) (around_at by_number t) t 0 0 true [] (inner t) lie all c (λ e l. absurd (omega arith)) (omega arith) in
    subst (λ j. tree_in (suc (inner t)) (nodes_of t) (entries_of t) j ≡ t) (omega arith) r
