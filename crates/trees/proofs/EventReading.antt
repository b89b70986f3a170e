-- Event formulas are read back from their entries. Assumes nothing.
use Rattle.std.proofs.Common.{◌≡◌, ℕ, zero, suc, ◌+◌, ◌≤◌, List, ◌++◌, Some, None, Option, refl, ap, ◌∙◌, subst, arith}
use Rattle.std.specs.List.{slice_get}
use Rattle.logic.specs.declared.events.EventFormula.{EventFormula}
use Rattle.logic.specs.declared.events.EventFormula.TheVariants as entry
use Rattle.trees.specs.Trees.{EventTree, top, bottom, tau, event, not_event, both_events, either_events, events_inner, events_size, guard_size}
use Rattle.trees.specs.Numbering.{event_entries, guard_at, guard_entries}
use Rattle.trees.specs.Reading.{event_tree_of, event_tree_in, guard_tree}
use Rattle.trees.proofs.Lengths.{event_entries_length, guard_entries_length}
use Rattle.trees.proofs.Segments.{Segment, segment_split, segment_push, two_parts}

module _ (entries : List EventFormula) where
  -- the entry k
  abbrev pub Entry : ℕ → EventFormula → Type 0
  Entry k x = slice_get entries k ≡ Some x

  -- an entry that was read
  reads : (c k : ℕ) (x : EventFormula) → Entry k x → event_tree_in (suc c) entries k ≡ event_tree_of (Some x) (event_tree_in c entries)
  unfolding event_tree_in
  reads c k x h = ap (λ o. event_tree_of o (event_tree_in c entries)) h

  -- the event formula with entries from m on, read back by more turns than it has entries before its last
  pub events_back : (t : EventTree ℕ) (m c : ℕ) → Segment Entry m (event_entries t m) → events_inner t ≤ c → event_tree_in (suc c) entries (m + events_inner t) ≡ t
  events_back top m c h l = reads c (m + 0) entry.True (subst (λ k. Entry k entry.True) (omega arith) h.0)
  events_back bottom m c h l = reads c (m + 0) entry.False (subst (λ k. Entry k entry.False) (omega arith) h.0)
  events_back tau m c h l = reads c (m + 0) entry.Tau (subst (λ k. Entry k entry.Tau) (omega arith) h.0)
  events_back (event e) m c h l = reads c (m + 0) (entry.Event e) (subst (λ k. Entry k (entry.Event e)) (omega arith) h.0)
  events_back (not_event a) m zero h l = absurd (omega arith)
  events_back (not_event a) m (suc c) h l =
      let p = segment_push Entry m (events_size a) (event_entries a m) (entry.Not (m + events_inner a)) (event_entries_length a m) h in
      reads (suc c) (m + events_size a) (entry.Not (m + events_inner a)) p.1 ∙ ap not_event (events_back a m c p.0 (omega arith))
  events_back (both_events a b) m zero h l = absurd (omega arith)
  events_back (both_events a b) m (suc c) h l =
      let x = entry.And (m + events_inner a) (m + events_size a + events_inner b) in
      let p = two_parts Entry m (events_size a) (events_size b) _ _ x (event_entries_length a m) (event_entries_length b (m + events_size a)) h in
      let f = events_back a m c p.0 (omega arith) in
      let g = events_back b (m + events_size a) c p.1 (omega arith) in
      reads (suc c) (m + (events_size a + events_size b)) x p.2 ∙ (λ i. both_events (f i) (g i))
  events_back (either_events a b) m zero h l = absurd (omega arith)
  events_back (either_events a b) m (suc c) h l =
      let x = entry.Or (m + events_inner a) (m + events_size a + events_inner b) in
      let p = two_parts Entry m (events_size a) (events_size b) _ _ x (event_entries_length a m) (event_entries_length b (m + events_size a)) h in
      let f = events_back a m c p.0 (omega arith) in
      let g = events_back b (m + events_size a) c p.1 (omega arith) in
      reads (suc c) (m + (events_size a + events_size b)) x p.2 ∙ (λ i. either_events (f i) (g i))

  pub guard_back : (g : Option (EventTree ℕ)) (m : ℕ) → Segment Entry m (guard_entries g m) → guard_tree entries (guard_at g m) ≡ g
  guard_back None m h = refl
  guard_back (Some t) m h = ap Some (events_back t m (m + events_inner t) h (omega arith))

  pub guards_back : (g h : Option (EventTree ℕ)) (m : ℕ) → Segment Entry m (guard_entries g m ++ guard_entries h (m + guard_size g)) →
      (guard_tree entries (guard_at g m) ≡ g) × (guard_tree entries (guard_at h (m + guard_size g)) ≡ h)
  guards_back g h m k =
      let p = segment_split Entry m (guard_size g) (guard_entries g m) (guard_entries h (m + guard_size g)) (guard_entries_length g m) k in
      (guard_back g m p.0, guard_back h (m + guard_size g) p.1)
