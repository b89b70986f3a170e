-- What is asked of a formula as it is written, and the formula whose names are resolved. Assumes nothing.
use Rattle.std.specs.Prelude.{ℕ, Bool, true, ◌&&◌, ◌||◌, List, [], ◌∷◌, ◌++◌, is_some, Some, None, Option, nat_le, slice_index_or}
use Rattle.text.specs.Numbering.{number_of}
use Rattle.text.specs.declared.names.Name.{Name}
use Rattle.logic.specs.Limits.{max_nodes, max_entries, max_depth}
use Rattle.trees.specs.Trees.{EventTree, top, bottom, tau, event, not_event, both_events, either_events, Leaf, verum, falsum, final, named, Unary, negation, diamond, box_all, all_next, eventually, always, Binary, conjunction, disjunction, exists_until, all_until, exists_until_by, all_until_by, leaf, one, two, binder, size, entries_size}
use Rattle.trees.specs.Numbering.{Atom, proposition, variable, Term, sign_below}
use Rattle.trees.specs.Lawful.{depth_of, same_sign}
use Rattle.grammar.specs.Grammar.{WrittenEvents, Written}

-- 34: at most 64 nodes, and at most 64 event formula entries as written
abbrev pub fits : Written → Bool
fits t = nat_le (size t) max_nodes && nat_le (entries_size t) max_entries

-- 35: at most 3 binders around a node
abbrev pub shallow : Written → Bool
shallow t = nat_le (depth_of t) max_depth

-- a name of a state is known where a binder around it has that name, or a proposition
abbrev pub leaf_known : (propositions around : List Name) → Leaf Name → Bool
leaf_known propositions around verum = true
leaf_known propositions around falsum = true
leaf_known propositions around final = true
leaf_known propositions around (named n) = is_some (number_of around n) || is_some (number_of propositions n)

-- 36: all names of states are known; `around` has the names of the binders around, the innermost last
abbrev pub states_known : (propositions around : List Name) → Written → Bool
states_known propositions around (leaf l) = leaf_known propositions around l
states_known propositions around (one u a) = states_known propositions around a
states_known propositions around (two o a b) = states_known propositions around a && states_known propositions around b
states_known propositions around (binder w n a) = states_known propositions (around ++ n ∷ []) a

-- all names in an event formula are known
abbrev pub names_known : List Name → WrittenEvents → Bool
names_known events top = true
names_known events bottom = true
names_known events tau = true
names_known events (event n) = is_some (number_of events n)
names_known events (not_event a) = names_known events a
names_known events (both_events a b) = names_known events a && names_known events b
names_known events (either_events a b) = names_known events a && names_known events b

abbrev pub guard_known : List Name → Option WrittenEvents → Bool
guard_known events None = true
guard_known events (Some t) = names_known events t

abbrev pub unary_known : List Name → Unary Name → Bool
unary_known events negation = true
unary_known events (diamond g) = guard_known events g
unary_known events (box_all g) = guard_known events g
unary_known events (all_next g) = guard_known events g
unary_known events eventually = true
unary_known events always = true

abbrev pub binary_known : List Name → Binary Name → Bool
binary_known events conjunction = true
binary_known events disjunction = true
binary_known events (exists_until g) = guard_known events g
binary_known events (all_until g) = guard_known events g
binary_known events (exists_until_by g h) = guard_known events g && guard_known events h
binary_known events (all_until_by g h) = guard_known events g && guard_known events h

-- 37: all names of events are known
abbrev pub events_known : List Name → Written → Bool
events_known events (leaf l) = true
events_known events (one u a) = unary_known events u && events_known events a
events_known events (two o a b) = events_known events a && (binary_known events o && events_known events b)
events_known events (binder w n a) = events_known events a

-- a variable has the sign of its binder
abbrev pub sign_kept : Option ℕ → List Bool → Bool → Bool
sign_kept None signs s = true
sign_kept (Some e) signs s = same_sign (slice_index_or signs e s) s

abbrev pub leaf_even : List Name → List Bool → Bool → Leaf Name → Bool
leaf_even around signs s verum = true
leaf_even around signs s falsum = true
leaf_even around signs s final = true
leaf_even around signs s (named n) = sign_kept (number_of around n) signs s

-- 38: an even number of `not` stands between each variable and its binder, the innermost of that name: both are under as many `not` from the root,
-- odd or even; `signs` are those of the binders around
abbrev pub even_nots : List Name → List Bool → Bool → Written → Bool
even_nots around signs s (leaf l) = leaf_even around signs s l
even_nots around signs s (one u a) = even_nots around signs (sign_below u s) a
even_nots around signs s (two o a b) = even_nots around signs s a && even_nots around signs s b
even_nots around signs s (binder w n a) = even_nots (around ++ n ∷ []) (signs ++ s ∷ []) s a

-- an event formula with the numbers of its events
abbrev pub event_or : Option ℕ → EventTree ℕ
event_or None = bottom
event_or (Some e) = event e

abbrev pub resolve_events : List Name → WrittenEvents → EventTree ℕ
resolve_events events top = top
resolve_events events bottom = bottom
resolve_events events tau = tau
resolve_events events (event n) = event_or (number_of events n)
resolve_events events (not_event a) = not_event (resolve_events events a)
resolve_events events (both_events a b) = both_events (resolve_events events a) (resolve_events events b)
resolve_events events (either_events a b) = either_events (resolve_events events a) (resolve_events events b)

-- an event formula that is just `true` is as good as none
abbrev pub unless_true : EventTree ℕ → Option (EventTree ℕ)
unless_true top = None
unless_true bottom = Some bottom
unless_true tau = Some tau
unless_true (event e) = Some (event e)
unless_true (not_event a) = Some (not_event a)
unless_true (both_events a b) = Some (both_events a b)
unless_true (either_events a b) = Some (either_events a b)

abbrev pub resolve_guard : List Name → Option WrittenEvents → Option (EventTree ℕ)
resolve_guard events None = None
resolve_guard events (Some t) = unless_true (resolve_events events t)

abbrev pub resolve_unary : List Name → Unary Name → Unary ℕ
resolve_unary events negation = negation
resolve_unary events (diamond g) = diamond (resolve_guard events g)
resolve_unary events (box_all g) = box_all (resolve_guard events g)
resolve_unary events (all_next g) = all_next (resolve_guard events g)
resolve_unary events eventually = eventually
resolve_unary events always = always

abbrev pub resolve_binary : List Name → Binary Name → Binary ℕ
resolve_binary events conjunction = conjunction
resolve_binary events disjunction = disjunction
resolve_binary events (exists_until g) = exists_until (resolve_guard events g)
resolve_binary events (all_until g) = all_until (resolve_guard events g)
resolve_binary events (exists_until_by g h) = exists_until_by (resolve_guard events g) (resolve_guard events h)
resolve_binary events (all_until_by g h) = all_until_by (resolve_guard events g) (resolve_guard events h)

-- a name means the innermost binder of that name, else a proposition
abbrev pub proposition_or : Option ℕ → Atom
proposition_or None = proposition 0
proposition_or (Some p) = proposition p

abbrev pub atom_of : Option ℕ → Option ℕ → Atom
atom_of (Some e) p = variable e
atom_of None p = proposition_or p

abbrev pub resolve_leaf : (propositions around : List Name) → Leaf Name → Leaf Atom
resolve_leaf propositions around verum = verum
resolve_leaf propositions around falsum = falsum
resolve_leaf propositions around final = final
resolve_leaf propositions around (named n) = named (atom_of (number_of around n) (number_of propositions n))

-- the formula with its names resolved
abbrev pub resolve : (events propositions around : List Name) → Written → Term
resolve events propositions around (leaf l) = leaf (resolve_leaf propositions around l)
resolve events propositions around (one u a) = one (resolve_unary events u) (resolve events propositions around a)
resolve events propositions around (two o a b) = two (resolve_binary events o) (resolve events propositions around a) (resolve events propositions around b)
resolve events propositions around (binder w n a) = binder w tt (resolve events propositions (around ++ n ∷ []) a)
