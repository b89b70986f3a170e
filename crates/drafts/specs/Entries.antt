-- Event formula entries while they are read. Assumes nothing.
use Rattle.std.specs.Prelude.{ℕ, suc, ◌+◌, ◌-◌, Bool, true, false, cond, List, [], ◌∷◌, ◌++◌, length, take, Some, None, Option, nat_lt}
use Rattle.std.specs.List.{slice_get}
use Rattle.text.specs.Numbering.{number_of}
use Rattle.text.specs.declared.names.Name.{Name}
use Rattle.logic.specs.declared.events.EventFormula.{EventFormula}
use Rattle.logic.specs.declared.events.EventFormula.TheVariants as entry
use Rattle.logic.specs.Guards.{Guard}
use Rattle.logic.specs.Limits.{max_entries}
use Rattle.trees.specs.Trees.{top, bottom, tau, event, not_event, both_events, either_events}
use Rattle.grammar.specs.Grammar.{WrittenEvents}

-- entries by number, how many were written, up to one more than there may be, and whether a name was not known
pub record EntriesRead : Type 0 where
  pub list : List EventFormula
  pub written : ℕ
  pub unknown : Bool

abbrev pub no_entries : EntriesRead
no_entries = record { list = []; written = 0; unknown = false }

abbrev pub store_entry : EventFormula → EntriesRead → EntriesRead
store_entry e v = record { list = v.list ++ e ∷ []; written = v.written + 1; unknown = v.unknown }

abbrev pub skip_entry : EntriesRead → EntriesRead
skip_entry v = record { list = v.list; written = suc max_entries; unknown = v.unknown }

-- one entry more, where there is room for it
abbrev pub add_entry : EventFormula → EntriesRead → EntriesRead
add_entry e v = cond (nat_lt v.written max_entries) (store_entry e v) (skip_entry v)

abbrev pub note_unknown : EntriesRead → EntriesRead
note_unknown v = record { list = v.list; written = v.written; unknown = true }

abbrev pub add_numbered : Option ℕ → EntriesRead → EntriesRead
add_numbered (Some k) v = add_entry (entry.Event k) v
add_numbered None v = add_entry entry.False (note_unknown v)

-- the entry of an event by its name
abbrev pub add_event : List Name → Name → EntriesRead → EntriesRead
add_event names n v = add_numbered (number_of names n) v

-- an event formula's entries, parts first; the number is that of the last, the one for the whole
abbrev pub emit_events : List Name → WrittenEvents → EntriesRead → ℕ × EntriesRead
emit_events names top v = (length v.list, add_entry entry.True v)
emit_events names bottom v = (length v.list, add_entry entry.False v)
emit_events names tau v = (length v.list, add_entry entry.Tau v)
emit_events names (event n) v = (length v.list, add_event names n v)
emit_events names (not_event a) v = (length (emit_events names a v).1.list, add_entry (entry.Not (emit_events names a v).0) (emit_events names a v).1)
emit_events names (both_events a b) v = (
  length (emit_events names b (emit_events names a v).1).1.list,
  add_entry (entry.And (emit_events names a v).0 (emit_events names b (emit_events names a v).1).0) (emit_events names b (emit_events names a v).1).1,
)
emit_events names (either_events a b) v = (
  length (emit_events names b (emit_events names a v).1).1.list,
  add_entry (entry.Or (emit_events names a v).0 (emit_events names b (emit_events names a v).1).0) (emit_events names b (emit_events names a v).1).1,
)

abbrev pub is_true_entry : Option EventFormula → Bool
is_true_entry None = false
is_true_entry (Some entry.True) = true
is_true_entry (Some entry.False) = false
is_true_entry (Some entry.Tau) = false
is_true_entry (Some (entry.Event e)) = false
is_true_entry (Some (entry.Not a)) = false
is_true_entry (Some (entry.And a b)) = false
is_true_entry (Some (entry.Or a b)) = false

abbrev pub is_true_at : List EventFormula → ℕ → Bool
is_true_at list k = is_true_entry (slice_get list k)

-- the last entry goes
abbrev pub drop_last : EntriesRead → EntriesRead
drop_last v = record { list = take (length v.list - 1) v.list; written = v.written; unknown = v.unknown }

-- the guard that the event formula with the number is: one that is just `true` is as good as none, and its entry goes
abbrev pub settle_guard : ℕ → EntriesRead → Guard × EntriesRead
settle_guard k v = (cond (is_true_at v.list k) None (Some k), cond (is_true_at v.list k) (drop_last v) v)

-- a guard as it is written
abbrev pub emit_guard : List Name → Option WrittenEvents → EntriesRead → Guard × EntriesRead
emit_guard names None v = (None, v)
emit_guard names (Some t) v = settle_guard (emit_events names t v).0 (emit_events names t v).1
