-- The refusals of a load: for each its number, and the line at fault where there is one. Assumes nothing.
use Rattle.std.specs.Prelude.{ℕ, List, [], drop, Some, None, Option}
use Rattle.files.specs.declared.fault.File.{File}
use Rattle.files.specs.declared.fault.File.TheVariants.{Transitions, Labels}
use Rattle.files.specs.declared.fault.Fault.{Fault}
use Rattle.files.specs.declared.fault.Fault.TheVariants.{TransitionsTooLong, HeaderLine, HeaderNumbers, TransitionLine, TransitionLabel, TransitionStates, TooManyEvents, LabelsTooLong, NamesLine, StateLine, TooManyPropositions, TablesTooShort}
use Rattle.files.specs.Lines.{line_of}

-- the number of the question that got a no, and the file and the byte at which the line at fault starts
pub record Refusal : Type 0 where
  pub number : ℕ
  pub place : Option (File × ℕ)

abbrev pub refusal : Fault → Refusal
refusal TransitionsTooLong = record { number = 1; place = None }
refusal (HeaderLine start) = record { number = 2; place = Some (Transitions, start) }
refusal HeaderNumbers = record { number = 3; place = None }
refusal (TransitionLine start) = record { number = 4; place = Some (Transitions, start) }
refusal (TransitionLabel start) = record { number = 5; place = Some (Transitions, start) }
refusal (TransitionStates start) = record { number = 6; place = Some (Transitions, start) }
refusal TooManyEvents = record { number = 7; place = None }
refusal LabelsTooLong = record { number = 8; place = None }
refusal (NamesLine start) = record { number = 9; place = Some (Labels, start) }
refusal (StateLine start) = record { number = 10; place = Some (Labels, start) }
refusal TooManyPropositions = record { number = 11; place = None }
refusal TablesTooShort = record { number = 12; place = None }

-- the file that is meant
abbrev pub file_of : File → List ℕ → List ℕ → List ℕ
file_of Transitions transitions labels = transitions
file_of Labels transitions labels = labels

-- the line at fault: from its start up to the next byte 10 or the file's end, and nothing where there is none
abbrev pub fault_line : Option (File × ℕ) → List ℕ → List ℕ → List ℕ
fault_line None transitions labels = []
fault_line (Some place) transitions labels = line_of (drop place.1 (file_of place.0 transitions labels))
