-- How a file and a refusal are worded. Assumes nothing.
use Rattle.std.specs.Prelude.{ℕ, cond, ◌&&◌, List, codes, nat_le}
use Rattle.files.specs.declared.fault.File.{File}
use Rattle.files.specs.declared.fault.File.TheVariants.{Transitions, Labels}
use Rattle.files.specs.declared.fault.Fault.{Fault}
use Rattle.files.specs.declared.fault.Fault.TheVariants.{TransitionsTooLong, HeaderLine, HeaderNumbers, TransitionLine, TransitionLabel, TransitionStates, TooManyEvents, LabelsTooLong, NamesLine, StateLine, TooManyPropositions, TablesTooShort}

-- what a file is called
abbrev pub file_name : File → List ℕ
file_name Transitions = codes "model.aut"
file_name Labels = codes "model.lab"

-- what is wrong, as a mechanic would say it
abbrev pub complaint : Fault → List ℕ
complaint TransitionsTooLong = codes "model.aut is longer than 65535 bytes"
complaint (HeaderLine start) = codes "the first line should read: des (INITIAL, TRANSITIONS, STATES)"
complaint HeaderNumbers = codes "model.aut: there should be 1 to 256 states and at most 1024 transitions, and the initial state should be one of the states"
complaint (TransitionLine start) = codes "here a line should read: (FROM, \"LABEL\", TO), as many of them as the first line says, and nothing after them"
complaint (TransitionLabel start) = codes "the label should be i, or 1 to 8 names joined by ;"
complaint (TransitionStates start) = codes "the transition leaves or reaches a state that the first line does not allow for"
complaint TooManyEvents = codes "model.aut: there are more than 64 different events"
complaint LabelsTooLong = codes "model.lab is longer than 65535 bytes"
complaint (NamesLine start) = codes "the first line should read: 0=\"init\" 1=\"deadlock\" 2=\"NAME\" and so on, with at most 64 names, all different"
complaint (StateLine start) = codes "here a line should read: STATE: NUMBER NUMBER, with states rising from line to line, and numbers of the first line, rising"
complaint TooManyPropositions = codes "model.lab: there are more than 64 different propositions"
complaint TablesTooShort = codes "there is no room for so many transitions or states"

-- a byte that is a printable ASCII character, 32 to 126, and else a question mark
abbrev pub shown : ℕ → ℕ
shown b = cond (nat_le 32 b && nat_le b 126) b 63
