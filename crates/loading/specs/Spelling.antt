-- The system that two files spell. Assumes nothing.
use Rattle.std.specs.Prelude.{ℕ, List, map, filter, nat_eq}
use Rattle.layouts.specs.Layouts.{Arrow}
use Rattle.layouts.specs.declared.transitions.Header.{Header}
use Rattle.systems.specs.Meaning.{Move, Meaning}
use Rattle.text.specs.declared.names.Name.{Name}
use Rattle.transition_file.specs.Records.{events_of}
use Rattle.transition_file.specs.TransitionPart.{arrows_of, body}
use Rattle.label_file.specs.LabelPart.{masks, labels_at}

-- a transition as a move
abbrev pub move_in : List Name → Arrow → Move
move_in events a = record { events = events_of events a; target = a.target }

-- what the two files say, besides their names: the header, and the names that the label file lists
pub record Contents : Type 0 where
  pub header : Header
  pub names : List Name

-- the system: the header's states and initial state, the transitions that leave a state, in their order and with the numbers of
-- their events, and the propositions that the lines of labels give a state, by their numbers
abbrev pub spelled : List ℕ → List ℕ → Contents → (events propositions : List Name) → Meaning
spelled transitions labels c events propositions = record {
  transitions = record {
    states = c.header.states;
    initial = c.header.initial;
    moves = λ q. map (move_in events) (filter (λ a. nat_eq a.source q) (arrows_of transitions));
  };
  propositions = λ q. labels_at (masks propositions c.names) (body labels) q;
}
