-- Formulas that have the same nodes are one. Assumes nothing.
use Rattle.std.proofs.Common.{◌≡◌, ℕ, zero, suc, ◌≤◌, true, false, List, get_or, None, Option, sym, refl, ap, ◌∙◌, subst₂, ⊎_elim, arith}
use Rattle.std.proofs.lemmas.Bool.{cases_lt}
use Rattle.logic.specs.declared.events.EventFormula.{EventFormula}
use Rattle.logic.specs.declared.nodes.Kind.{Kind}
use Rattle.logic.specs.declared.nodes.Kind.TheVariants as kind
use Rattle.logic.specs.declared.nodes.Node.{Node}
use Rattle.trees.specs.Trees.{EventTree, verum, falsum, final, named, negation, diamond, box_all, all_next, eventually, always, conjunction, disjunction, exists_until, all_until, exists_until_by, all_until_by, leaf, one, two, binder, inner, size}
use Rattle.trees.specs.Numbering.{proposition, variable, Term, nodes_of, entries_of}
use Rattle.trees.specs.Lawful.{blank_node, node_at}
use Rattle.trees.specs.Reading.{tree_of, tree_in, bare_kind, guard_trees, SameNode, SameNodes, NodesTell}
use Rattle.trees.proofs.Laying.{node_past}
use Rattle.trees.proofs.TreeReading.{reads_back}

-- a node over the trees of its parts, from its kind without guards and the trees of its guards
abbrev built : (ℕ → ℕ) → Kind → List (Option (EventTree ℕ)) → (ℕ → Term) → Term
built place kind.True gs part = leaf verum
built place kind.False gs part = leaf falsum
built place kind.Final gs part = leaf final
built place (kind.Proposition p) gs part = leaf (named (proposition p))
built place (kind.Not a) gs part = one negation (part a)
built place (kind.And a b) gs part = two conjunction (part a) (part b)
built place (kind.Or a b) gs part = two disjunction (part a) (part b)
built place (kind.Diamond x a) gs part = one (diamond (get_or gs 0 None)) (part a)
built place (kind.BoxAll x a) gs part = one (box_all (get_or gs 0 None)) (part a)
built place (kind.AllNext x a) gs part = one (all_next (get_or gs 0 None)) (part a)
built place (kind.Eventually a) gs part = one eventually (part a)
built place (kind.Always a) gs part = one always (part a)
built place (kind.ExistsUntil a x b) gs part = two (exists_until (get_or gs 0 None)) (part a) (part b)
built place (kind.AllUntil a x b) gs part = two (all_until (get_or gs 0 None)) (part a) (part b)
built place (kind.ExistsUntilBy a x y b) gs part = two (exists_until_by (get_or gs 0 None) (get_or gs 1 None)) (part a) (part b)
built place (kind.AllUntilBy a x y b) gs part = two (all_until_by (get_or gs 0 None) (get_or gs 1 None)) (part a) (part b)
built place (kind.Min a) gs part = binder true tt (part a)
built place (kind.Max a) gs part = binder false tt (part a)
built place (kind.Variable b) gs part = leaf (named (variable (place b)))

tree_built : (entries : List EventFormula) (place : ℕ → ℕ) (K : Kind) (part : ℕ → Term) →
    tree_of entries place K part ≡ built place (bare_kind K) (guard_trees entries K) part
tree_built entries place kind.True part = refl
tree_built entries place kind.False part = refl
tree_built entries place kind.Final part = refl
tree_built entries place (kind.Proposition p) part = refl
tree_built entries place (kind.Not a) part = refl
tree_built entries place (kind.And a b) part = refl
tree_built entries place (kind.Or a b) part = refl
tree_built entries place (kind.Diamond x a) part = refl
tree_built entries place (kind.BoxAll x a) part = refl
tree_built entries place (kind.AllNext x a) part = refl
tree_built entries place (kind.Eventually a) part = refl
tree_built entries place (kind.Always a) part = refl
tree_built entries place (kind.ExistsUntil a x b) part = refl
tree_built entries place (kind.AllUntil a x b) part = refl
tree_built entries place (kind.ExistsUntilBy a x y b) part = refl
tree_built entries place (kind.AllUntilBy a x y b) part = refl
tree_built entries place (kind.Min a) part = refl
tree_built entries place (kind.Max a) part = refl
tree_built entries place (kind.Variable b) part = refl

module _ (nodes nodes' : List Node) (entries entries' : List EventFormula) (same : (j : ℕ) → SameNode entries entries' (node_at nodes j) (node_at nodes' j)) where
  -- trees read the same from nodes that are the same
  pub same_trees : (turns j : ℕ) → tree_in turns nodes entries j ≡ tree_in turns nodes' entries' j
  unfolding tree_in
  same_trees zero j = refl
  same_trees (suc turns) j =
      tree_built entries (λ b. (node_at nodes b).depth) (node_at nodes j).kind (tree_in turns nodes entries)
      ∙ (λ i. built (λ b. (same b).depth i) ((same j).bare i) ((same j).guards i) (λ k. same_trees turns k i))
      ∙ sym (tree_built entries' (λ b. (node_at nodes' b).depth) (node_at nodes' j).kind (tree_in turns nodes' entries'))

-- past the last node there is nothing, so all are the same
same_everywhere : (t u : Term) → SameNodes t u → (j : ℕ) → SameNode (entries_of t) (entries_of u) (node_at (nodes_of t) j) (node_at (nodes_of u) j)
same_everywhere t u h j = ⊎_elim (h.each j) past (cases_lt j (size t))
  where
    past : size t ≤ j → SameNode (entries_of t) (entries_of u) (node_at (nodes_of t) j) (node_at (nodes_of u) j)
    past l =
        let blank : SameNode (entries_of t) (entries_of u) blank_node blank_node = record { bare = refl; guards = refl; depth = refl; sign = refl } in
        subst₂ (SameNode (entries_of t) (entries_of u)) (sym (node_past t j l)) (sym (node_past u j (omega (arith, h.many)))) blank

pub nodes_tell : NodesTell
nodes_tell t u c d h =
    let e : inner t ≡ inner u = omega (arith, h.many) in
    sym (reads_back t c)
    ∙ same_trees (nodes_of t) (nodes_of u) (entries_of t) (entries_of u) (same_everywhere t u h) (suc (inner t)) (inner t)
    ∙ ap (λ k. tree_in (suc k) (nodes_of u) (entries_of u) k) e
    ∙ reads_back u d
