-- A load: its twelve questions in order, and what it leaves. Assumes nothing.
use Rattle.std.specs.Prelude.{◌≡◌, ℕ, Bool, ◌&&◌, List, ◌++◌, map, length, drop, Ok, Err, Result, nat_le}
use Rattle.std.specs.List.{range_with_len}
use Rattle.files.specs.declared.fault.Fault.{Fault}
use Rattle.files.specs.declared.fault.Fault.TheVariants.{TablesTooShort}
use Rattle.layouts.specs.Pieces.{and_then}
use Rattle.layouts.specs.declared.transitions.Header.{Header}
use Rattle.systems.specs.Tabled.{tabled}
use Rattle.systems.specs.declared.transition.Transition.{Transition}
use Rattle.text.specs.Held.{held}
use Rattle.text.specs.Numbering.{join_all}
use Rattle.text.specs.declared.names.Name.{Name}
use Rattle.transition_file.specs.Asking.{ask}
use Rattle.transition_file.specs.Records.{record_in}
use Rattle.transition_file.specs.TransitionPart.{transition_part, events_then, arrows_of, body}
use Rattle.label_file.specs.LabelPart.{label_part, masks, labels_at}
use Rattle.loading.specs.Spelling.{Contents, spelled}
use Rattle.loading.specs.declared.shape.Shape.{Shape}
use Rattle.loading.specs.declared.vocabulary.Vocabulary.{Vocabulary}

-- 12: the caller's tables have places for the transitions and for the states
abbrev pub tables_fit : Header → ℕ → ℕ → Bool
tables_fit h records sets = nat_le h.transitions records && nat_le h.states sets

-- the questions in order: those of the transition file, those of the label file, and that of the tables
abbrev pub loaded : List ℕ → List ℕ → (events propositions : List Name) → (records sets : ℕ) → Result Contents Fault
loaded transitions labels events propositions records sets =
    and_then (transition_part transitions events) (λ h.
    and_then (label_part labels h.states propositions) (λ names.
    ask (tables_fit h records sets) TablesTooShort (
    Ok (record { header = h; names = names }))))

-- what a load leaves that is not refused
pub record Leaves (transitions labels : List ℕ) (v v' : Vocabulary) (records records' : List Transition) (sets sets' : List ℕ) (c : Contents) (s : Shape) : Type 0 where
  -- the numbers of the header
  pub states : s.states ≡ c.header.states
  pub initial : s.initial ≡ c.header.initial
  pub moves : s.moves ≡ c.header.transitions
  -- old names, then the new ones in the order in which they come
  pub events : held v'.events ≡ events_then transitions (held v.events)
  pub propositions : held v'.propositions ≡ join_all (held v.propositions) c.names
  -- the records and sets of the files, and behind them what was there
  pub written : records' ≡ map (record_in (held v'.events)) (arrows_of transitions) ++ drop c.header.transitions records
  pub marked : sets' ≡ map (labels_at (masks (held v'.propositions) c.names) (body labels)) (range_with_len 0 c.header.states) ++ drop c.header.states sets
  -- the table over them means what the files spell
  pub meaning : tabled s.states s.initial s.moves records' sets' ≡ spelled transitions labels c (held v'.events) (held v'.propositions)

-- a load is refused with the first question that gets a no, and then changes nothing; else it leaves what the files say
abbrev pub Loads : List ℕ → List ℕ → Vocabulary → Vocabulary → List Transition → List Transition → List ℕ → List ℕ → Result Shape Fault → Type 0
Loads ts ls v v' rs rs' ss ss' (Err fault) =
    (loaded ts ls (held v.events) (held v.propositions) (length rs) (length ss) ≡ Err fault) × (v' ≡ v) × (rs' ≡ rs) × (ss' ≡ ss)
Loads ts ls v v' rs rs' ss ss' (Ok s) =
    (c : Contents) × (loaded ts ls (held v.events) (held v.propositions) (length rs) (length ss) ≡ Ok c) × Leaves ts ls v v' rs rs' ss ss' c s
