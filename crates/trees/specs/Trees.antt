-- Formulas as trees. Assumes nothing.
use Rattle.std.specs.Prelude.{ℕ, suc, ◌+◌, Bool, Some, None, Option}

-- an event formula, over what stands for its events
pub data EventTree (E : Type 0) : Type 0 where
  top : EventTree E
  bottom : EventTree E
  tau : EventTree E
  event : E → EventTree E
  not_event : EventTree E → EventTree E
  both_events : EventTree E → EventTree E → EventTree E
  either_events : EventTree E → EventTree E → EventTree E

-- true, false, FINAL, or what stands for a proposition or a variable
pub data Leaf (X : Type 0) : Type 0 where
  verum : Leaf X
  falsum : Leaf X
  final : Leaf X
  named : X → Leaf X

-- an operator with one part; an event formula may be missing
pub data Unary (E : Type 0) : Type 0 where
  negation : Unary E
  diamond : Option (EventTree E) → Unary E
  box_all : Option (EventTree E) → Unary E
  all_next : Option (EventTree E) → Unary E
  eventually : Unary E
  always : Unary E

-- an operator with two parts
pub data Binary (E : Type 0) : Type 0 where
  conjunction : Binary E
  disjunction : Binary E
  exists_until : Option (EventTree E) → Binary E
  all_until : Option (EventTree E) → Binary E
  exists_until_by : Option (EventTree E) → Option (EventTree E) → Binary E
  all_until_by : Option (EventTree E) → Option (EventTree E) → Binary E

-- a formula, over what stands for states' names, for events, and behind a binder; a binder is min where the test is true, and max where it is false
pub data Tree (X E B : Type 0) : Type 0 where
  leaf : Leaf X → Tree X E B
  one : Unary E → Tree X E B → Tree X E B
  two : Binary E → Tree X E B → Tree X E B → Tree X E B
  binder : Bool → B → Tree X E B → Tree X E B

-- how many entries an event formula has before its last, the one for the whole
abbrev pub events_inner : {E : Type 0} → EventTree E → ℕ
events_inner top = 0
events_inner bottom = 0
events_inner tau = 0
events_inner (event e) = 0
events_inner (not_event a) = suc (events_inner a)
events_inner (both_events a b) = suc (events_inner a) + suc (events_inner b)
events_inner (either_events a b) = suc (events_inner a) + suc (events_inner b)

-- how many entries an event formula has: one for each operator, name or constant
abbrev pub events_size : {E : Type 0} → EventTree E → ℕ
events_size t = suc (events_inner t)

-- a missing event formula has none
abbrev pub guard_size : {E : Type 0} → Option (EventTree E) → ℕ
guard_size None = 0
guard_size (Some t) = events_size t

abbrev pub unary_size : {E : Type 0} → Unary E → ℕ
unary_size negation = 0
unary_size (diamond g) = guard_size g
unary_size (box_all g) = guard_size g
unary_size (all_next g) = guard_size g
unary_size eventually = 0
unary_size always = 0

abbrev pub binary_size : {E : Type 0} → Binary E → ℕ
binary_size conjunction = 0
binary_size disjunction = 0
binary_size (exists_until g) = guard_size g
binary_size (all_until g) = guard_size g
binary_size (exists_until_by g h) = guard_size g + guard_size h
binary_size (all_until_by g h) = guard_size g + guard_size h

-- how many event formula entries a formula has
abbrev pub entries_size : {X E B : Type 0} → Tree X E B → ℕ
entries_size (leaf l) = 0
entries_size (one u a) = unary_size u + entries_size a
entries_size (two o a b) = entries_size a + binary_size o + entries_size b
entries_size (binder w x a) = entries_size a

-- how many nodes a formula has before its last, the root
abbrev pub inner : {X E B : Type 0} → Tree X E B → ℕ
inner (leaf l) = 0
inner (one u a) = suc (inner a)
inner (two o a b) = suc (inner a) + suc (inner b)
inner (binder w x a) = suc (inner a)

-- how many nodes a formula has: one for each operator, name or constant
abbrev pub size : {X E B : Type 0} → Tree X E B → ℕ
size t = suc (inner t)
