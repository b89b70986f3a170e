-- How the nodes and entries of a formula are stored. Assumes nothing.
use Rattle.std.specs.Prelude.{◌-◌, List, length}
use Rattle.logic.specs.declared.events.EventFormula.{EventFormula}
use Rattle.logic.specs.declared.nodes.Node.{Node}
use Rattle.trees.specs.Numbering.{Term}
use Rattle.trees.specs.Reading.{tree_at}

-- the tree that the nodes and entries spell; the root is the last node
abbrev pub stored_tree : (nodes : List Node) (entries : List EventFormula) → Term
stored_tree nodes entries = tree_at nodes entries (length nodes - 1)
