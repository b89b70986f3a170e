-- A formula, by number, and what holds of every formula. Assumes nothing.
use Rattle.std.specs.Prelude.{◌≡◌, ℕ, ◌-◌, ◌<◌, ◌≤◌, Bool, true, ◌↔◌, List, length, Some, None}
use Rattle.logic.specs.declared.events.EventFormula.{EventFormula}
use Rattle.logic.specs.Guards.{Guard}
use Rattle.logic.specs.declared.nodes.Node.{Node}
use Rattle.logic.specs.Events.{satisfies}
use Rattle.logic.specs.Laid.{Laid, Convex}
use Rattle.logic.specs.Limits.{max_nodes, max_depth}
use Rattle.trees.specs.Numbering.{Term}
use Rattle.trees.specs.Lawful.{node_at}
use Rattle.trees.specs.Reading.{SameNode}
use Rattle.lists.specs.Items.{items}
use Rattle.formulas.specs.Stored.{stored_tree}
use Rattle.formulas.specs.declared.formula.Formula.{Formula}

-- the nodes and entries
abbrev pub nodes_in : Formula → List Node
nodes_in f = items f.nodes

abbrev pub entries_in : Formula → List EventFormula
entries_in f = items f.entries

-- how many nodes there are; the root is the last
abbrev pub node_count : Formula → ℕ
node_count f = length (nodes_in f)

abbrev pub root_of : Formula → ℕ
root_of f = node_count f - 1

-- the node with a number
abbrev pub node_in : Formula → ℕ → Node
node_in f j = node_at (nodes_in f) j

-- the tree of the formula
abbrev pub tree_of : Formula → Term
tree_of f = stored_tree (nodes_in f) (entries_in f)

-- whether moves with these events are meant: a missing event formula means all
abbrev pub accepted : Formula → Guard → ℕ → Bool
accepted f None events = true
accepted f (Some k) events = satisfies (entries_in f) k events

-- how the nodes of a formula lie
pub record LiesWell (f : Formula) : Type 0 where
  pub some : 1 ≤ node_count f
  pub few : node_count f ≤ max_nodes
  -- the binders around each node, by depth
  pub scope : ℕ → ℕ → ℕ
  pub laid : Laid (node_in f) (node_count f) scope
  pub convex : Convex (node_in f) (node_count f) scope
  -- nothing is around the root, and no node is too deep
  pub root : (node_in f (root_of f)).depth ≡ 0
  pub shallow : (j : ℕ) → (node_in f j).depth ≤ max_depth

abbrev pub FormulasLieWell : Type 0
FormulasLieWell = (f : Formula) → LiesWell f

-- two formulas have the same nodes, number by number
pub record SameFormulas (f g : Formula) : Type 0 where
  pub many : node_count f ≡ node_count g
  pub each : (j : ℕ) → j < node_count f → SameNode (entries_in f) (entries_in g) (node_in f j) (node_in g j)

-- they are one value exactly if they have the same nodes
abbrev pub SameNodesSameFormula : Type 0
SameNodesSameFormula = (f g : Formula) → SameFormulas f g ↔ (f ≡ g)
