-- The transition file: its questions, 1 to 7, in order. Assumes nothing.
use Rattle.std.specs.Prelude.{ℕ, zero, suc, ◌+◌, Bool, false, cond, ◌&&◌, List, [], ◌∷◌, map, length, drop, is_some, is_ok, Some, None, Ok, Err, Option, Result, nat_le, nat_lt}
use Rattle.std.specs.Option.{unwrap_or}
use Rattle.std.specs.Result.{result_ok}
use Rattle.std.specs.List.{flat_map}
use Rattle.files.specs.Lines.{Row, rows_of, end_of}
use Rattle.files.specs.declared.fault.Fault.{Fault}
use Rattle.files.specs.declared.fault.Fault.TheVariants.{TransitionsTooLong, HeaderLine, HeaderNumbers, TransitionLine, TransitionLabel, TransitionStates, TooManyEvents}
use Rattle.layouts.specs.Layouts.{header_of, Arrow, transition_of}
use Rattle.layouts.specs.declared.fault.LineFault.{LineFault}
use Rattle.layouts.specs.declared.transitions.Header.{Header}
use Rattle.contents.specs.Labels.{label_names}
use Rattle.systems.specs.Limits.{max_states}
use Rattle.text.specs.Numbering.{names_limit, join_all}
use Rattle.text.specs.declared.names.Name.{Name}
use Rattle.transition_file.specs.Asking.{ask, given, pass}

-- the most bytes of a file
abbrev pub file_limit : ℕ
file_limit = 65535

-- the most transitions of a file
abbrev pub max_transitions : ℕ
max_transitions = 1024

-- 1 and 8: the file is not too long
abbrev pub short : List ℕ → Bool
short file = nat_le (length file) file_limit

-- 2: the first line is ended and has the header's layout
abbrev pub header_row : List Row → Option Header
header_row [] = None
header_row (r ∷ rs) = cond r.ended (result_ok (header_of r.text)) None

-- 3: 1 to 256 states, at most 1,024 transitions, and the initial state is one of the states
abbrev pub numbers_fit : Header → Bool
numbers_fit h = (nat_le 1 h.states && nat_le h.states max_states) && (nat_le h.transitions max_transitions && nat_lt h.initial h.states)

-- a line that is ended and has a transition's layout
abbrev pub is_arrow : Row → Bool
is_arrow r = r.ended && is_ok (transition_of r.text)

-- 4: exactly so many lines with a transition's layout follow; else where the first line at fault starts: one with another
-- layout, the file's end where one is missing, or a line too many
abbrev pub misplaced : ℕ → ℕ → List Row → Option ℕ
misplaced zero end [] = None
misplaced zero end (r ∷ rs) = Some r.start
misplaced (suc m) end [] = Some end
misplaced (suc m) end (r ∷ rs) = cond (is_arrow r) (misplaced m end rs) (Some r.start)

-- the start of the first line that fails a test
abbrev pub failing : (Row → Bool) → List Row → Option ℕ
failing passes [] = None
failing passes (r ∷ rs) = cond (passes r) (failing passes rs) (Some r.start)

-- what is asked of a line's transition; a line with another layout fails
abbrev pub asked : (Arrow → Bool) → Result Arrow LineFault → Bool
asked p (Ok a) = p a
asked p (Err f) = false

abbrev pub on_arrow : (Arrow → Bool) → Row → Bool
on_arrow p r = asked p (transition_of r.text)

-- 5: the label is i, or 1 to 8 lawful names
abbrev pub lawful_label : Arrow → Bool
lawful_label a = is_some (label_names a.label)

-- 6: the transition joins two of the states
abbrev pub joins_states : ℕ → Arrow → Bool
joins_states states a = nat_lt a.source states && nat_lt a.target states

-- the transition that a line tells of
abbrev pub arrow_in : List ℕ → Arrow
arrow_in line = unwrap_or (result_ok (transition_of line)) (record { source = 0; label = []; target = 0 })

-- the names in a label
abbrev pub names_in : List ℕ → List Name
names_in label = unwrap_or (label_names label) []

-- the names in the labels of lines, in order
abbrev pub names_in_line : List ℕ → List Name
names_in_line line = names_in (arrow_in line).label

abbrev pub names_in_rows : List Row → List Name
names_in_rows rows = flat_map (λ r. names_in_line r.text) rows

-- 7 and 11: a vocabulary has numbers for so many names
abbrev pub numbered : List Name → Bool
numbered names = nat_le (length names) names_limit

-- the lines behind the first
abbrev pub body : List ℕ → List Row
body file = drop 1 (rows_of file)

-- the transitions of the file
abbrev pub arrows_of : List ℕ → List Arrow
arrows_of file = map (λ r. arrow_in r.text) (body file)

-- where they begin: behind the first line and the byte that ends it
abbrev pub body_start : List ℕ → ℕ
body_start file = end_of file 0 + cond (nat_lt (end_of file 0) (length file)) 1 0

-- names that join others, where there are numbers for so many
abbrev pub join_if_few : List Name → List Name → Option (List Name)
join_if_few known names = cond (numbered (join_all known names)) (Some (join_all known names)) None

-- the names of events once the file is loaded
abbrev pub events_then : List ℕ → List Name → List Name
events_then file known = join_all known (names_in_rows (body file))

-- the questions in order; where each gets a yes, the header
abbrev pub transition_part : List ℕ → List Name → Result Header Fault
transition_part file known =
    ask (short file) TransitionsTooLong (
    given (header_row (rows_of file)) (HeaderLine 0) (λ h.
    ask (numbers_fit h) HeaderNumbers (
    pass (misplaced h.transitions (length file) (body file)) TransitionLine (
    pass (failing (on_arrow lawful_label) (body file)) TransitionLabel (
    pass (failing (on_arrow (joins_states h.states)) (body file)) TransitionStates (
    ask (numbered (events_then file known)) TooManyEvents (
    Ok h)))))))
