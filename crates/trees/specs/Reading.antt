-- The tree of a formula, read back from its nodes and entries. Assumes nothing.
use Rattle.std.specs.Prelude.{◌≡◌, ℕ, zero, suc, ◌<◌, true, false, T, List, [], ◌∷◌, Some, None, Option}
use Rattle.std.specs.List.{slice_get}
use Rattle.logic.specs.declared.events.EventFormula.{EventFormula}
use Rattle.logic.specs.declared.events.EventFormula.TheVariants as entry
use Rattle.logic.specs.Guards.{Guard}
use Rattle.logic.specs.declared.nodes.Kind.{Kind}
use Rattle.logic.specs.declared.nodes.Kind.TheVariants as kind
use Rattle.logic.specs.declared.nodes.Node.{Node}
use Rattle.trees.specs.Trees.{EventTree, top, bottom, tau, event, not_event, both_events, either_events, verum, falsum, final, named, negation, diamond, box_all, all_next, eventually, always, conjunction, disjunction, exists_until, all_until, exists_until_by, all_until_by, leaf, one, two, binder, inner, size}
use Rattle.trees.specs.Numbering.{proposition, variable, Term, nodes_of, entries_of}
use Rattle.trees.specs.Lawful.{closed, node_at}

-- an entry over the trees of its parts
abbrev pub event_tree_of : Option EventFormula → (ℕ → EventTree ℕ) → EventTree ℕ
event_tree_of None part = bottom
event_tree_of (Some entry.True) part = top
event_tree_of (Some entry.False) part = bottom
event_tree_of (Some entry.Tau) part = tau
event_tree_of (Some (entry.Event e)) part = event e
event_tree_of (Some (entry.Not a)) part = not_event (part a)
event_tree_of (Some (entry.And a b)) part = both_events (part a) (part b)
event_tree_of (Some (entry.Or a b)) part = either_events (part a) (part b)

-- entries are numbered after their parts, so k + 1 turns reach all of the entry k
unfoldable pub event_tree_in : ℕ → List EventFormula → ℕ → EventTree ℕ
event_tree_in zero entries k = bottom
event_tree_in (suc turns) entries k = event_tree_of (slice_get entries k) (event_tree_in turns entries)

abbrev pub event_tree_at : List EventFormula → ℕ → EventTree ℕ
event_tree_at entries k = event_tree_in (suc k) entries k

abbrev pub guard_tree : List EventFormula → Guard → Option (EventTree ℕ)
guard_tree entries None = None
guard_tree entries (Some k) = Some (event_tree_at entries k)

-- a node over the trees of its parts; `place` is the depth of a binder
abbrev pub tree_of : List EventFormula → (ℕ → ℕ) → Kind → (ℕ → Term) → Term
tree_of entries place kind.True part = leaf verum
tree_of entries place kind.False part = leaf falsum
tree_of entries place kind.Final part = leaf final
tree_of entries place (kind.Proposition p) part = leaf (named (proposition p))
tree_of entries place (kind.Not a) part = one negation (part a)
tree_of entries place (kind.And a b) part = two conjunction (part a) (part b)
tree_of entries place (kind.Or a b) part = two disjunction (part a) (part b)
tree_of entries place (kind.Diamond x a) part = one (diamond (guard_tree entries x)) (part a)
tree_of entries place (kind.BoxAll x a) part = one (box_all (guard_tree entries x)) (part a)
tree_of entries place (kind.AllNext x a) part = one (all_next (guard_tree entries x)) (part a)
tree_of entries place (kind.Eventually a) part = one eventually (part a)
tree_of entries place (kind.Always a) part = one always (part a)
tree_of entries place (kind.ExistsUntil a x b) part = two (exists_until (guard_tree entries x)) (part a) (part b)
tree_of entries place (kind.AllUntil a x b) part = two (all_until (guard_tree entries x)) (part a) (part b)
tree_of entries place (kind.ExistsUntilBy a x y b) part = two (exists_until_by (guard_tree entries x) (guard_tree entries y)) (part a) (part b)
tree_of entries place (kind.AllUntilBy a x y b) part = two (all_until_by (guard_tree entries x) (guard_tree entries y)) (part a) (part b)
tree_of entries place (kind.Min a) part = binder true tt (part a)
tree_of entries place (kind.Max a) part = binder false tt (part a)
tree_of entries place (kind.Variable b) part = leaf (named (variable (place b)))

-- nodes are numbered after their parts, so j + 1 turns reach all of the node j
unfoldable pub tree_in : ℕ → List Node → List EventFormula → ℕ → Term
tree_in zero nodes entries j = leaf falsum
tree_in (suc turns) nodes entries j = tree_of entries (λ b. (node_at nodes b).depth) (node_at nodes j).kind (tree_in turns nodes entries)

-- the tree whose root is the node j
abbrev pub tree_at : List Node → List EventFormula → ℕ → Term
tree_at nodes entries j = tree_in (suc j) nodes entries j

-- from the nodes and entries of a formula without unbound variables its tree is read back
abbrev pub ReadsBack : Type 0
ReadsBack = (t : Term) → T (closed t 0) → tree_at (nodes_of t) (entries_of t) (inner t) ≡ t

-- a kind, whatever its guards
abbrev pub bare_kind : Kind → Kind
bare_kind kind.True = kind.True
bare_kind kind.False = kind.False
bare_kind kind.Final = kind.Final
bare_kind (kind.Proposition p) = kind.Proposition p
bare_kind (kind.Not a) = kind.Not a
bare_kind (kind.And a b) = kind.And a b
bare_kind (kind.Or a b) = kind.Or a b
bare_kind (kind.Diamond x a) = kind.Diamond None a
bare_kind (kind.BoxAll x a) = kind.BoxAll None a
bare_kind (kind.AllNext x a) = kind.AllNext None a
bare_kind (kind.Eventually a) = kind.Eventually a
bare_kind (kind.Always a) = kind.Always a
bare_kind (kind.ExistsUntil a x b) = kind.ExistsUntil a None b
bare_kind (kind.AllUntil a x b) = kind.AllUntil a None b
bare_kind (kind.ExistsUntilBy a x y b) = kind.ExistsUntilBy a None None b
bare_kind (kind.AllUntilBy a x y b) = kind.AllUntilBy a None None b
bare_kind (kind.Min a) = kind.Min a
bare_kind (kind.Max a) = kind.Max a
bare_kind (kind.Variable b) = kind.Variable b

-- the guards of a kind, read from the entries
abbrev pub guard_trees : List EventFormula → Kind → List (Option (EventTree ℕ))
guard_trees entries kind.True = []
guard_trees entries kind.False = []
guard_trees entries kind.Final = []
guard_trees entries (kind.Proposition p) = []
guard_trees entries (kind.Not a) = []
guard_trees entries (kind.And a b) = []
guard_trees entries (kind.Or a b) = []
guard_trees entries (kind.Diamond x a) = guard_tree entries x ∷ []
guard_trees entries (kind.BoxAll x a) = guard_tree entries x ∷ []
guard_trees entries (kind.AllNext x a) = guard_tree entries x ∷ []
guard_trees entries (kind.Eventually a) = []
guard_trees entries (kind.Always a) = []
guard_trees entries (kind.ExistsUntil a x b) = guard_tree entries x ∷ []
guard_trees entries (kind.AllUntil a x b) = guard_tree entries x ∷ []
guard_trees entries (kind.ExistsUntilBy a x y b) = guard_tree entries x ∷ guard_tree entries y ∷ []
guard_trees entries (kind.AllUntilBy a x y b) = guard_tree entries x ∷ guard_tree entries y ∷ []
guard_trees entries (kind.Min a) = []
guard_trees entries (kind.Max a) = []
guard_trees entries (kind.Variable b) = []

-- two nodes are the same: of guards the event formulas count, wherever their entries stand
pub record SameNode (entries entries' : List EventFormula) (x y : Node) : Type 0 where
  pub bare : bare_kind x.kind ≡ bare_kind y.kind
  pub guards : guard_trees entries x.kind ≡ guard_trees entries' y.kind
  pub depth : x.depth ≡ y.depth
  pub sign : x.sign ≡ y.sign

-- two formulas have the same nodes, number by number
pub record SameNodes (t u : Term) : Type 0 where
  pub many : size t ≡ size u
  pub each : (j : ℕ) → j < size t → SameNode (entries_of t) (entries_of u) (node_at (nodes_of t) j) (node_at (nodes_of u) j)

-- formulas without unbound variables that have the same nodes are one
abbrev pub NodesTell : Type 0
NodesTell = (t u : Term) → T (closed t 0) → T (closed u 0) → SameNodes t u → t ≡ u
