-- The nodes and event formula entries of a formula, by number. Assumes nothing.
use Rattle.std.specs.Prelude.{ℕ, ◌+◌, Bool, true, false, not, List, [], ◌∷◌, ◌++◌, length, Some, None, Option, slice_index}
use Rattle.logic.specs.declared.events.EventFormula.{EventFormula}
use Rattle.logic.specs.declared.events.EventFormula.TheVariants as entry
use Rattle.logic.specs.Guards.{Guard}
use Rattle.logic.specs.declared.nodes.Kind.{Kind}
use Rattle.logic.specs.declared.nodes.Kind.TheVariants as kind
use Rattle.logic.specs.declared.nodes.Node.{Node}
use Rattle.trees.specs.Trees.{EventTree, top, bottom, tau, event, not_event, both_events, either_events, Leaf, verum, falsum, final, named, Unary, negation, diamond, box_all, all_next, eventually, always, Binary, conjunction, disjunction, exists_until, all_until, exists_until_by, all_until_by, Tree, leaf, one, two, binder, events_inner, events_size, guard_size, unary_size, binary_size, entries_size, inner, size}

-- a name that is resolved: a proposition by its number, a variable by the depth of its binder
pub data Atom : Type 0 where
  proposition : ℕ → Atom
  variable : ℕ → Atom

-- a formula whose names are resolved
abbrev pub Term : Type 0
Term = Tree Atom ℕ (Unit {0})

-- the entries of an event formula, numbered from m on: parts come first, the left part before the right one
abbrev pub event_entries : EventTree ℕ → ℕ → List EventFormula
event_entries top m = entry.True ∷ []
event_entries bottom m = entry.False ∷ []
event_entries tau m = entry.Tau ∷ []
event_entries (event e) m = entry.Event e ∷ []
event_entries (not_event a) m = event_entries a m ++ entry.Not (m + events_inner a) ∷ []
event_entries (both_events a b) m =
    event_entries a m ++ event_entries b (m + events_size a) ++ entry.And (m + events_inner a) (m + events_size a + events_inner b) ∷ []
event_entries (either_events a b) m =
    event_entries a m ++ event_entries b (m + events_size a) ++ entry.Or (m + events_inner a) (m + events_size a + events_inner b) ∷ []

-- the moves that are meant, where the entries are numbered from m on
abbrev pub guard_at : Option (EventTree ℕ) → ℕ → Guard
guard_at None m = None
guard_at (Some t) m = Some (m + events_inner t)

abbrev pub guard_entries : Option (EventTree ℕ) → ℕ → List EventFormula
guard_entries None m = []
guard_entries (Some t) m = event_entries t m

abbrev pub unary_entries : Unary ℕ → ℕ → List EventFormula
unary_entries negation m = []
unary_entries (diamond g) m = guard_entries g m
unary_entries (box_all g) m = guard_entries g m
unary_entries (all_next g) m = guard_entries g m
unary_entries eventually m = []
unary_entries always m = []

abbrev pub binary_entries : Binary ℕ → ℕ → List EventFormula
binary_entries conjunction m = []
binary_entries disjunction m = []
binary_entries (exists_until g) m = guard_entries g m
binary_entries (all_until g) m = guard_entries g m
binary_entries (exists_until_by g h) m = guard_entries g m ++ guard_entries h (m + guard_size g)
binary_entries (all_until_by g h) m = guard_entries g m ++ guard_entries h (m + guard_size g)

-- the event formula entries of a formula, numbered from m on, in the order in which they are written
abbrev pub entries_from : Term → ℕ → List EventFormula
entries_from (leaf l) m = []
entries_from (one u a) m = unary_entries u m ++ entries_from a (m + unary_size u)
entries_from (two o a b) m =
    entries_from a m ++ binary_entries o (m + entries_size a) ++ entries_from b (m + entries_size a + binary_size o)
entries_from (binder w x a) m = entries_from a m

-- the kind of a leaf, where the binders around it have the numbers of the list, by depth
abbrev pub leaf_kind : Leaf Atom → List ℕ → Kind
leaf_kind verum around = kind.True
leaf_kind falsum around = kind.False
leaf_kind final around = kind.Final
leaf_kind (named (proposition p)) around = kind.Proposition p
leaf_kind (named (variable e)) around = kind.Variable (slice_index around e)

-- the kind of a node over the node a, with entries from m on
abbrev pub unary_kind : Unary ℕ → ℕ → ℕ → Kind
unary_kind negation m a = kind.Not a
unary_kind (diamond g) m a = kind.Diamond (guard_at g m) a
unary_kind (box_all g) m a = kind.BoxAll (guard_at g m) a
unary_kind (all_next g) m a = kind.AllNext (guard_at g m) a
unary_kind eventually m a = kind.Eventually a
unary_kind always m a = kind.Always a

-- the kind of a node over the nodes a and b, with entries from m on
abbrev pub binary_kind : Binary ℕ → ℕ → ℕ → ℕ → Kind
binary_kind conjunction m a b = kind.And a b
binary_kind disjunction m a b = kind.Or a b
binary_kind (exists_until g) m a b = kind.ExistsUntil a (guard_at g m) b
binary_kind (all_until g) m a b = kind.AllUntil a (guard_at g m) b
binary_kind (exists_until_by g h) m a b = kind.ExistsUntilBy a (guard_at g m) (guard_at h (m + guard_size g)) b
binary_kind (all_until_by g h) m a b = kind.AllUntilBy a (guard_at g m) (guard_at h (m + guard_size g)) b

-- a binder over the node a
abbrev pub binder_kind : Bool → ℕ → Kind
binder_kind true a = kind.Min a
binder_kind false a = kind.Max a

-- the sign of the part of a node of the sign s
abbrev pub sign_below : {E : Type 0} → Unary E → Bool → Bool
sign_below negation s = not s
sign_below (diamond g) s = s
sign_below (box_all g) s = s
sign_below (all_next g) s = s
sign_below eventually s = s
sign_below always s = s

-- a node of the sign s inside these binders
abbrev pub node_in : List ℕ → Bool → Kind → Node
node_in around s k = record { kind = k; depth = length around; sign = s }

-- the nodes of a formula, numbered from n on, with event formula entries numbered from m on, under the sign s, inside binders with these numbers:
-- a node is numbered after its parts, the left part first; `tag` is what stands for a binder with its depth and its number
abbrev pub nodes_by : (ℕ → ℕ → ℕ) → Term → (n m : ℕ) → Bool → List ℕ → List Node
nodes_by tag (leaf l) n m s around = node_in around s (leaf_kind l around) ∷ []
nodes_by tag (one u a) n m s around =
    nodes_by tag a n (m + unary_size u) (sign_below u s) around ++ node_in around s (unary_kind u m (n + inner a)) ∷ []
nodes_by tag (two o a b) n m s around =
    nodes_by tag a n m s around ++ nodes_by tag b (n + size a) (m + entries_size a + binary_size o) s around
    ++ node_in around s (binary_kind o (m + entries_size a) (n + inner a) (n + size a + inner b)) ∷ []
nodes_by tag (binder w x a) n m s around =
    nodes_by tag a n m s (around ++ tag (length around) (n + size a) ∷ []) ++ node_in around s (binder_kind w (n + inner a)) ∷ []

-- the nodes of a formula: a variable names its binder by number
abbrev pub nodes_of : Term → List Node
nodes_of t = nodes_by (λ depth number. number) t 0 0 true []

-- the same with variables by the depth of their binders
abbrev pub nodes_by_depth : Term → List Node
nodes_by_depth t = nodes_by (λ depth number. depth) t 0 0 true []

-- the event formula entries of a formula
abbrev pub entries_of : Term → List EventFormula
entries_of t = entries_from t 0
