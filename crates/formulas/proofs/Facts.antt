-- What is stored in a formula are the nodes and entries of its tree. Assumes nothing.
use Rattle.std.proofs.Common.{◌≡◌, ℕ, ◌≤◌, T, ◌↔◌, length, sym, refl, ap, ◌∙◌, subst, arith}
use denote.Struct.Record.{values_one}
use base.Stored.{coded_via}
use Rattle.std.specs.Coded.{Coded, coded_list}
use Rattle.logic.specs.contracts.nodes.Node as stored-node
use Rattle.logic.specs.contracts.events.EventFormula as stored-entry
use Rattle.logic.specs.Laid.{Laid, Convex}
use Rattle.logic.specs.Limits.{max_depth}
use Rattle.trees.specs.Trees.{size, inner}
use Rattle.trees.specs.Numbering.{nodes_of, entries_of}
use Rattle.trees.specs.Lawful.{closed, node_at}
use Rattle.trees.specs.Reading.{SameNode}
use Rattle.trees.proofs.Lying.{lawful_lie}
use Rattle.trees.proofs.Telling.{nodes_tell}
use Rattle.trees.proofs.Variables.{both}
use Rattle.lists.specs.declared.Blank.{Ghosts}
use Rattle.lists.specs.declared.FixedList.{FixedList}
use Rattle.lists.specs.Items.{items}
use Rattle.lists.proofs.Same.{same_items}
use Rattle.formulas.specs.Formulas.{nodes_in, entries_in, root_of, node_in, tree_of, LiesWell, SameFormulas}
use Rattle.formulas.specs.declared.formula.Formula.{Formula}
use Rattle.formulas.specs.contracts.formula.Formula as stored

-- a list has the code of its items
abbrev items_coded : {X : Type 0} → Coded X → {N : ℕ} {B : Ghosts X} → Coded (FixedList X N B)
items_coded code = coded_via (coded_list code) items (same_items code)

module _ (f : Formula) where
  tree_size : size (tree_of f) ≡ length (nodes_in f)
  tree_size = sym f.counted

  node_in_lem : node_at (nodes_of (tree_of f)) ≡ node_in f
  node_in_lem = ap node_at (sym f.nodes_are)

  is_closed : T (closed (tree_of f) 0)
  is_closed = (both _ _ f.lawful_is).0

  pub lies_well : LiesWell f
  lies_well =
      let l = lawful_lie (tree_of f) f.lawful_is in
      let c : size (tree_of f) ≡ length (nodes_in f) = tree_size in
      let r : inner (tree_of f) ≡ root_of f = omega (arith, c) in
      record {
        some = omega (arith, c);
        few = f.within;
        scope = l.scope;
        laid = subst (λ φ. Laid φ (length (nodes_in f)) l.scope) node_in_lem (subst (λ n. Laid (node_at (nodes_of (tree_of f))) n l.scope) c l.laid);
        convex = subst (λ φ. Convex φ (length (nodes_in f)) l.scope) node_in_lem (subst (λ n. Convex (node_at (nodes_of (tree_of f))) n l.scope) c l.convex);
        root = subst (λ j. (node_in f j).depth ≡ 0) r (subst (λ φ. (φ (inner (tree_of f))).depth ≡ 0) node_in_lem l.root);
        shallow = λ j. subst (λ φ. (φ j).depth ≤ max_depth) node_in_lem (l.shallow j);
      }

module _ (f g : Formula) where
  same_tree : SameFormulas f g → tree_of f ≡ tree_of g
  same_tree h =
      nodes_tell (tree_of f) (tree_of g) (is_closed f) (is_closed g)
      (record {
        many = tree_size f ∙ h.many ∙ sym (tree_size g);
        each = λ j l. told j (h.each j (omega (arith, l, tree_size f)));
      })
    where
      told : (j : ℕ) → SameNode (entries_in f) (entries_in g) (node_in f j) (node_in g j)
          → SameNode (entries_of (tree_of f)) (entries_of (tree_of g)) (node_at (nodes_of (tree_of f)) j) (node_at (nodes_of (tree_of g)) j)
      told j e =
          subst (λ φ. SameNode (entries_of (tree_of f)) (entries_of (tree_of g)) (φ j) (node_at (nodes_of (tree_of g)) j)) (sym (node_in_lem f))
          (subst (λ φ. SameNode (entries_of (tree_of f)) (entries_of (tree_of g)) (node_in f j) (φ j)) (sym (node_in_lem g))
          (subst (λ es. SameNode es (entries_of (tree_of g)) (node_in f j) (node_in g j)) f.entries_are
          (subst (λ es. SameNode (entries_in f) es (node_in f j) (node_in g j)) g.entries_are e)))

  one_value : tree_of f ≡ tree_of g → f ≡ g
  one_value e =
      let node_code = (stored-node.the_row).coded in
      let entry_code = (stored-entry.the_row).coded in
      let same_nodes = same_items node_code f.nodes g.nodes nodes_are in
      let same_entries = same_items entry_code f.entries g.entries entries_are in
      values_one stored.struct (stored.the_propositions (items_coded node_code) node_code (items_coded entry_code) entry_code) f g (λ i. (same_nodes i, (same_entries i, tt)))
    where
      nodes_are : nodes_in f ≡ nodes_in g
      nodes_are = f.nodes_are ∙ ap nodes_of e ∙ sym g.nodes_are

      entries_are : entries_in f ≡ entries_in g
      entries_are = f.entries_are ∙ ap entries_of e ∙ sym g.entries_are

  itself : SameFormulas f f
  itself = record { many = refl; each = λ j l. record { bare = refl; guards = refl; depth = refl; sign = refl } }

  pub same_nodes : SameFormulas f g ↔ (f ≡ g)
  same_nodes = (λ h. one_value (same_tree h), λ e. subst (λ x. SameFormulas f x) e itself)
