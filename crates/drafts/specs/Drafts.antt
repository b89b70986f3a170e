-- Nodes of a formula while it is read. Assumes nothing.
use Rattle.std.specs.Prelude.{ℕ, suc, ◌+◌, Bool, true, false, cond, List, [], ◌∷◌, ◌++◌, map, length, Some, None, Option, nat_lt, slice_index_or}
use Rattle.text.specs.Numbering.{number_of}
use Rattle.text.specs.Names.{same_name}
use Rattle.text.specs.Lookup.{latest}
use Rattle.text.specs.declared.names.Name.{Name}
use Rattle.logic.specs.Guards.{Guard}
use Rattle.logic.specs.declared.nodes.Kind.{Kind}
use Rattle.logic.specs.declared.nodes.Kind.TheVariants as kind
use Rattle.logic.specs.declared.nodes.Node.{Node}
use Rattle.logic.specs.Limits.{max_nodes, max_depth}
use Rattle.trees.specs.Trees.{Leaf, verum, falsum, final, named, Unary, negation, diamond, box_all, all_next, eventually, always, Binary, conjunction, disjunction, exists_until, all_until, exists_until_by, all_until_by, leaf, one, two, binder}
use Rattle.trees.specs.Numbering.{sign_below, binder_kind}
use Rattle.trees.specs.Lawful.{same_sign}
use Rattle.grammar.specs.Grammar.{Written}
use Rattle.drafts.specs.Entries.{EntriesRead, no_entries, emit_guard}
use Rattle.drafts.specs.declared.frame.Frame.{Frame}

-- nodes by number, of which a variable has the depth of its binder; how many were written, up to one more than there may be; entries; and whether a
-- binder was too deep, a name of a state not known, or a variable under an odd number of `not`
pub record Drafted : Type 0 where
  pub nodes : List Node
  pub count : ℕ
  pub entries : EntriesRead
  pub deep : Bool
  pub unknown : Bool
  pub odd : Bool

abbrev pub no_nodes : Drafted
no_nodes = record { nodes = []; count = 0; entries = no_entries; deep = false; unknown = false; odd = false }

abbrev pub store_node : Node → Drafted → Drafted
store_node x d = record { nodes = d.nodes ++ x ∷ []; count = d.count + 1; entries = d.entries; deep = d.deep; unknown = d.unknown; odd = d.odd }

abbrev pub skip_node : Drafted → Drafted
skip_node d = record { nodes = d.nodes; count = suc max_nodes; entries = d.entries; deep = d.deep; unknown = d.unknown; odd = d.odd }

-- one node more, where there is room for it
abbrev pub add_node : Node → Drafted → Drafted
add_node x d = cond (nat_lt d.count max_nodes) (store_node x d) (skip_node d)

abbrev pub with_entries : EntriesRead → Drafted → Drafted
with_entries v d = record { nodes = d.nodes; count = d.count; entries = v; deep = d.deep; unknown = d.unknown; odd = d.odd }

abbrev pub note_deep : Drafted → Drafted
note_deep d = record { nodes = d.nodes; count = d.count; entries = d.entries; deep = true; unknown = d.unknown; odd = d.odd }

abbrev pub note_state : Drafted → Drafted
note_state d = record { nodes = d.nodes; count = d.count; entries = d.entries; deep = d.deep; unknown = true; odd = d.odd }

abbrev pub note_odd : Drafted → Drafted
note_odd d = record { nodes = d.nodes; count = d.count; entries = d.entries; deep = d.deep; unknown = d.unknown; odd = true }

-- the innermost binder of a name
abbrev pub frame_of : List Frame → Name → Option ℕ
frame_of frames n = latest (λ f. same_name f.name n) frames

abbrev pub sign_at : List Frame → ℕ → Bool → Bool
sign_at frames e s = slice_index_or (map (λ f. f.sign) frames) e s

-- the kind of a name of a state: the variable of the innermost binder of that name, else a proposition
abbrev pub proposition_kind : Option ℕ → Kind
proposition_kind (Some p) = kind.Proposition p
proposition_kind None = kind.Proposition 0

abbrev pub name_kind : Option ℕ → Option ℕ → Kind
name_kind (Some e) p = kind.Variable e
name_kind None p = proposition_kind p

-- what is wrong with a name of a state
abbrev pub note_proposition : Option ℕ → Drafted → Drafted
note_proposition (Some p) d = d
note_proposition None d = note_state d

abbrev pub note_name : Option ℕ → Option ℕ → List Frame → Bool → Drafted → Drafted
note_name (Some e) p frames s d = cond (same_sign (sign_at frames e s) s) d (note_odd d)
note_name None p frames s d = note_proposition p d

-- a node of the sign s inside these binders
abbrev pub node_in : List Frame → Bool → Kind → Node
node_in frames s k = record { kind = k; depth = length frames; sign = s }

-- the node gets the next number
abbrev pub put_node : Node → Drafted → ℕ × Drafted
put_node x d = (d.count, add_node x d)

abbrev pub emit_leaf : List Name → Leaf Name → List Frame → Bool → Drafted → ℕ × Drafted
emit_leaf propositions verum frames s d = put_node (node_in frames s kind.True) d
emit_leaf propositions falsum frames s d = put_node (node_in frames s kind.False) d
emit_leaf propositions final frames s d = put_node (node_in frames s kind.Final) d
emit_leaf propositions (named n) frames s d =
    put_node (node_in frames s (name_kind (frame_of frames n) (number_of propositions n))) (note_name (frame_of frames n) (number_of propositions n) frames s d)

-- the event formulas of an operator, in the order in which they are written
abbrev pub unary_guard : List Name → Unary Name → EntriesRead → Guard × EntriesRead
unary_guard events negation v = (None, v)
unary_guard events (diamond g) v = emit_guard events g v
unary_guard events (box_all g) v = emit_guard events g v
unary_guard events (all_next g) v = emit_guard events g v
unary_guard events eventually v = (None, v)
unary_guard events always v = (None, v)

abbrev pub first_guard : List Name → Binary Name → EntriesRead → Guard × EntriesRead
first_guard events conjunction v = (None, v)
first_guard events disjunction v = (None, v)
first_guard events (exists_until g) v = emit_guard events g v
first_guard events (all_until g) v = emit_guard events g v
first_guard events (exists_until_by g h) v = emit_guard events g v
first_guard events (all_until_by g h) v = emit_guard events g v

abbrev pub second_guard : List Name → Binary Name → EntriesRead → Guard × EntriesRead
second_guard events conjunction v = (None, v)
second_guard events disjunction v = (None, v)
second_guard events (exists_until g) v = (None, v)
second_guard events (all_until g) v = (None, v)
second_guard events (exists_until_by g h) v = emit_guard events h v
second_guard events (all_until_by g h) v = emit_guard events h v

-- the kind of an operator with these event formulas over these nodes
abbrev pub kind_over : Unary Name → Guard → ℕ → Kind
kind_over negation x a = kind.Not a
kind_over (diamond g) x a = kind.Diamond x a
kind_over (box_all g) x a = kind.BoxAll x a
kind_over (all_next g) x a = kind.AllNext x a
kind_over eventually x a = kind.Eventually a
kind_over always x a = kind.Always a

abbrev pub kind_between : Binary Name → Guard → Guard → ℕ → ℕ → Kind
kind_between conjunction x y a b = kind.And a b
kind_between disjunction x y a b = kind.Or a b
kind_between (exists_until g) x y a b = kind.ExistsUntil a x b
kind_between (all_until g) x y a b = kind.AllUntil a x b
kind_between (exists_until_by g h) x y a b = kind.ExistsUntilBy a x y b
kind_between (all_until_by g h) x y a b = kind.AllUntilBy a x y b

-- one binder more around what is read, where there is room for it
abbrev pub push_frame : List Frame → Name → Bool → List Frame
push_frame frames n s = cond (nat_lt (length frames) max_depth) (frames ++ record { name = n; sign = s } ∷ []) frames

abbrev pub note_depth : List Frame → Drafted → Drafted
note_depth frames d = cond (nat_lt (length frames) max_depth) d (note_deep d)

-- what a formula adds to a draft: its event formulas and nodes, parts first; the number is that of its root
abbrev pub emit : (events propositions : List Name) → Written → List Frame → Bool → Drafted → ℕ × Drafted
emit events propositions (leaf l) frames s d = emit_leaf propositions l frames s d
emit events propositions (one u a) frames s d =
    let g = unary_guard events u d.entries in
    let r = emit events propositions a frames (sign_below u s) (with_entries g.1 d) in
    put_node (node_in frames s (kind_over u g.0 r.0)) r.1
emit events propositions (two o a b) frames s d =
    let p = emit events propositions a frames s d in
    let g = first_guard events o p.1.entries in
    let h = second_guard events o g.1 in
    let q = emit events propositions b frames s (with_entries h.1 p.1) in
    put_node (node_in frames s (kind_between o g.0 h.0 p.0 q.0)) q.1
emit events propositions (binder w n a) frames s d =
    let r = emit events propositions a (push_frame frames n s) s (note_depth frames d) in
    put_node (node_in frames s (binder_kind w r.0)) r.1
