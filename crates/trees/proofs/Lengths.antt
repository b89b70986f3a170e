-- How many entries and nodes a formula has. Assumes nothing.
use Rattle.std.proofs.Common.{◌≡◌, ℕ, ◌+◌, Bool, List, [], ◌∷◌, ◌++◌, length, Some, None, Option, refl, arith, length-append}
use Rattle.trees.specs.Trees.{EventTree, top, bottom, tau, event, not_event, both_events, either_events, Unary, negation, diamond, box_all, all_next, eventually, always, Binary, conjunction, disjunction, exists_until, all_until, exists_until_by, all_until_by, leaf, one, two, binder, events_size, guard_size, unary_size, binary_size, entries_size, size}
use Rattle.trees.specs.Numbering.{Term, event_entries, guard_entries, unary_entries, binary_entries, entries_from, sign_below, nodes_by}

pub event_entries_length : (t : EventTree ℕ) (m : ℕ) → length (event_entries t m) ≡ events_size t
event_entries_length top m = refl
event_entries_length bottom m = refl
event_entries_length tau m = refl
event_entries_length (event e) m = refl
event_entries_length (not_event a) m = simp length-append (omega (arith, event_entries_length a m))
event_entries_length (both_events a b) m =
    simp length-append (omega (arith, event_entries_length a m, event_entries_length b (m + events_size a)))
event_entries_length (either_events a b) m =
    simp length-append (omega (arith, event_entries_length a m, event_entries_length b (m + events_size a)))

pub guard_entries_length : (g : Option (EventTree ℕ)) (m : ℕ) → length (guard_entries g m) ≡ guard_size g
guard_entries_length None m = refl
guard_entries_length (Some t) m = event_entries_length t m

pub unary_entries_length : (u : Unary ℕ) (m : ℕ) → length (unary_entries u m) ≡ unary_size u
unary_entries_length negation m = refl
unary_entries_length (diamond g) m = guard_entries_length g m
unary_entries_length (box_all g) m = guard_entries_length g m
unary_entries_length (all_next g) m = guard_entries_length g m
unary_entries_length eventually m = refl
unary_entries_length always m = refl

two_guards_length : (g h : Option (EventTree ℕ)) (m : ℕ) → length (guard_entries g m ++ guard_entries h (m + guard_size g)) ≡ guard_size g + guard_size h
two_guards_length g h m = simp length-append (omega (arith, guard_entries_length g m, guard_entries_length h (m + guard_size g)))

pub binary_entries_length : (o : Binary ℕ) (m : ℕ) → length (binary_entries o m) ≡ binary_size o
binary_entries_length conjunction m = refl
binary_entries_length disjunction m = refl
binary_entries_length (exists_until g) m = guard_entries_length g m
binary_entries_length (all_until g) m = guard_entries_length g m
binary_entries_length (exists_until_by g h) m = two_guards_length g h m
binary_entries_length (all_until_by g h) m = two_guards_length g h m

pub entries_length : (t : Term) (m : ℕ) → length (entries_from t m) ≡ entries_size t
entries_length (leaf l) m = refl
entries_length (one u a) m = simp length-append (omega (arith, unary_entries_length u m, entries_length a (m + unary_size u)))
entries_length (two o a b) m =
    simp length-append (omega (arith, entries_length a m, binary_entries_length o (m + entries_size a), entries_length b (m + entries_size a + binary_size o)))
entries_length (binder w x a) m = entries_length a m

pub nodes_length : (tag : ℕ → ℕ → ℕ) (t : Term) (n m : ℕ) (s : Bool) (around : List ℕ) → length (nodes_by tag t n m s around) ≡ size t
nodes_length tag (leaf l) n m s around = refl
nodes_length tag (one u a) n m s around = simp length-append (omega (arith, nodes_length tag a n (m + unary_size u) (sign_below u s) around))
nodes_length tag (two o a b) n m s around =
    simp length-append (omega (arith, nodes_length tag a n m s around, nodes_length tag b (n + size a) (m + entries_size a + binary_size o) s around))
nodes_length tag (binder w x a) n m s around =
    simp length-append (omega (arith, nodes_length tag a n m s (around ++ tag (length around) (n + size a) ∷ [])))
