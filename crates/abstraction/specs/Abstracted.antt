-- What is seen of a system through a list of rules. Assumes nothing.
use Rattle.std.specs.Prelude.{ℕ, ◌^◌, cond, List, map, fold, bit_or}
use Rattle.systems.specs.Meaning.{Move, Transitions, Meaning, member}
use Rattle.abstraction.specs.declared.rule.Rule.{Rule}

-- a set, with the shown event of a rule if the rule's seen event is among the events
abbrev pub with_shown : (events set : ℕ) → Rule → ℕ
with_shown events set r = cond (member events r.seen) (bit_or set (2 ^ r.shown)) set

-- the shown event of each rule whose seen event is among the events
abbrev pub shown_by : List Rule → (events : ℕ) → ℕ
shown_by rules events = fold (with_shown events) 0 rules

-- a move as the rules show it
abbrev pub shown_move : List Rule → Move → Move
shown_move rules m = record { events = shown_by rules m.events; target = m.target }

-- where a system can go, as the rules show it
abbrev pub abstracted_transitions : List Rule → Transitions → Transitions
abstracted_transitions rules t = record { states = t.states; initial = t.initial; moves = λ q. map (shown_move rules) (t.moves q) }

-- a system as the rules show it
abbrev pub abstracted : List Rule → Meaning → Meaning
abstracted rules m = record { transitions = abstracted_transitions rules m.transitions; propositions = m.propositions }
