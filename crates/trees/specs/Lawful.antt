-- Which formulas with resolved names are lawful, and how their nodes then lie. Assumes nothing.
use Rattle.std.specs.Prelude.{◌≡◌, ℕ, suc, ◌<◌, ◌≤◌, max, Bool, true, false, not, ◌&&◌, T, List, [], ◌∷◌, ◌++◌, nat_le, nat_lt, slice_index_or}
use Rattle.logic.specs.declared.nodes.Node.{Node}
use Rattle.logic.specs.declared.nodes.Kind.{Kind}
use Rattle.logic.specs.declared.nodes.Kind.TheVariants as kind
use Rattle.logic.specs.Limits.{max_depth}
use Rattle.logic.specs.Laid.{Laid, Convex}
use Rattle.trees.specs.Trees.{Leaf, verum, falsum, final, named, Tree, leaf, one, two, binder, inner, size}
use Rattle.trees.specs.Numbering.{Atom, proposition, variable, Term, sign_below, nodes_of, nodes_by_depth}

-- the variable of a leaf has its binder around it, where d binders are around the leaf
abbrev pub leaf_closed : Leaf Atom → ℕ → Bool
leaf_closed verum d = true
leaf_closed falsum d = true
leaf_closed final d = true
leaf_closed (named (proposition p)) d = true
leaf_closed (named (variable e)) d = nat_lt e d

-- each variable has its binder around it, where d binders are around the whole
abbrev pub closed : Term → ℕ → Bool
closed (leaf l) d = leaf_closed l d
closed (one u a) d = closed a d
closed (two o a b) d = closed a d && closed b d
closed (binder w x a) d = closed a (suc d)

-- the most binders around a node
abbrev pub depth_of : {X E B : Type 0} → Tree X E B → ℕ
depth_of (leaf l) = 0
depth_of (one u a) = depth_of a
depth_of (two o a b) = max (depth_of a) (depth_of b)
depth_of (binder w x a) = suc (depth_of a)

-- two signs are one
abbrev pub same_sign : Bool → Bool → Bool
same_sign true s = s
same_sign false s = not s

abbrev pub leaf_monotone : Leaf Atom → Bool → List Bool → Bool
leaf_monotone verum s signs = true
leaf_monotone falsum s signs = true
leaf_monotone final s signs = true
leaf_monotone (named (proposition p)) s signs = true
leaf_monotone (named (variable e)) s signs = same_sign (slice_index_or signs e s) s

-- an even number of `not` stands between each variable and its binder: both have one sign; `signs` are those of the binders around, by depth
abbrev pub monotone : Term → Bool → List Bool → Bool
monotone (leaf l) s signs = leaf_monotone l s signs
monotone (one u a) s signs = monotone a (sign_below u s) signs
monotone (two o a b) s signs = monotone a s signs && monotone b s signs
monotone (binder w x a) s signs = monotone a s (signs ++ s ∷ [])

-- nothing is unbound, too deep or non-monotone
abbrev pub lawful : Term → Bool
lawful t = closed t 0 && (nat_le (depth_of t) max_depth && monotone t true [])

-- what stands in a place without a node
abbrev pub blank_node : Node
blank_node = record { kind = kind.False; depth = 0; sign = true }

-- the node with a number, in a list of nodes
abbrev pub node_at : List Node → ℕ → Node
node_at nodes j = slice_index_or nodes j blank_node

-- a variable that has the depth of its binder gets the binder's number instead
abbrev pub tie_kind : (ℕ → ℕ) → Kind → Kind
tie_kind scope kind.True = kind.True
tie_kind scope kind.False = kind.False
tie_kind scope kind.Final = kind.Final
tie_kind scope (kind.Proposition p) = kind.Proposition p
tie_kind scope (kind.Not a) = kind.Not a
tie_kind scope (kind.And a b) = kind.And a b
tie_kind scope (kind.Or a b) = kind.Or a b
tie_kind scope (kind.Diamond x a) = kind.Diamond x a
tie_kind scope (kind.BoxAll x a) = kind.BoxAll x a
tie_kind scope (kind.AllNext x a) = kind.AllNext x a
tie_kind scope (kind.Eventually a) = kind.Eventually a
tie_kind scope (kind.Always a) = kind.Always a
tie_kind scope (kind.ExistsUntil a x b) = kind.ExistsUntil a x b
tie_kind scope (kind.AllUntil a x b) = kind.AllUntil a x b
tie_kind scope (kind.ExistsUntilBy a x y b) = kind.ExistsUntilBy a x y b
tie_kind scope (kind.AllUntilBy a x y b) = kind.AllUntilBy a x y b
tie_kind scope (kind.Min a) = kind.Min a
tie_kind scope (kind.Max a) = kind.Max a
tie_kind scope (kind.Variable e) = kind.Variable (scope e)

abbrev pub tie : (ℕ → ℕ) → Node → Node
tie scope node = record { kind = tie_kind scope node.kind; depth = node.depth; sign = node.sign }

-- how the nodes of a formula lie
pub record Lies (t : Term) : Type 0 where
  -- the binders around each node, by depth
  pub scope : ℕ → ℕ → ℕ
  pub laid : Laid (node_at (nodes_of t)) (size t) scope
  pub convex : Convex (node_at (nodes_of t)) (size t) scope
  -- the nodes with variables by depth are these, but for the variables
  pub tied : (j : ℕ) → j < size t → node_at (nodes_of t) j ≡ tie (scope j) (node_at (nodes_by_depth t) j)
  -- nothing is around the root
  pub root : (node_at (nodes_of t) (inner t)).depth ≡ 0
  pub shallow : (j : ℕ) → (node_at (nodes_of t) j).depth ≤ max_depth

abbrev pub LawfulLie : Type 0
LawfulLie = (t : Term) → T (lawful t) → Lies t
