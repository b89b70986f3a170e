-- The label file: its questions, 8 to 11, in order. Assumes nothing.
use Rattle.std.specs.Prelude.{ℕ, suc, Bool, true, false, cond, ◌&&◌, List, [], ◌∷◌, map, length, Some, None, Ok, Err, fold, Option, Result, ◌==◌, bit_or, nat_le, nat_lt}
use Rattle.files.specs.Lines.{Row, rows_of}
use Rattle.files.specs.declared.fault.Fault.{Fault}
use Rattle.files.specs.declared.fault.Fault.TheVariants.{LabelsTooLong, NamesLine, StateLine, TooManyPropositions}
use Rattle.layouts.specs.Layouts.{Marks, marks_of}
use Rattle.layouts.specs.declared.fault.LineFault.{LineFault}
use Rattle.contents.specs.NamesLine.{names_of, well_begun}
use Rattle.contents.specs.MarksLine.{set_of}
use Rattle.text.specs.Numbering.{join_all}
use Rattle.text.specs.declared.names.Name.{Name}
use Rattle.transition_file.specs.Asking.{ask, given, pass}
use Rattle.transition_file.specs.Sets.{bit_in}
use Rattle.transition_file.specs.TransitionPart.{short, body, numbered}

-- lawful names that begin with init and deadlock
abbrev pub well_named : Result (Option (List Name)) LineFault → Option (List Name)
well_named (Err f) = None
well_named (Ok None) = None
well_named (Ok (Some names)) = cond (well_begun names) (Some names) None

-- 9: the first line is ended, has its layout, and lists 2 to 64 different lawful names by rising numbers from 0, init and deadlock first
abbrev pub names_row : List Row → Option (List Name)
names_row [] = None
names_row (r ∷ rs) = cond r.ended (well_named (names_of r.text)) None

-- numbers that rise from at least `least`, each below k
abbrev pub rising : ℕ → ℕ → List ℕ → Bool
rising least k [] = true
rising least k (n ∷ ns) = (nat_le least n && nat_lt n k) && rising (suc n) k ns

-- what is asked of a line of labels: its state is one of the n states and at least `least`, its numbers rise and are listed
abbrev pub lawful_marks : ℕ → ℕ → ℕ → Marks → Bool
lawful_marks n k least m = (nat_lt m.state n && nat_le least m.state) && rising 0 k m.numbers

abbrev pub asked_marks : (Marks → Bool) → Result Marks LineFault → Bool
asked_marks p (Ok m) = p m
asked_marks p (Err f) = false

-- the state that a line tells of
abbrev pub state_in : Result Marks LineFault → ℕ
state_in (Ok m) = m.state
state_in (Err f) = 0

-- the state of a line that is ended and lawful
abbrev pub lawful_state : ℕ → ℕ → ℕ → Row → Option ℕ
lawful_state n k least r = cond (r.ended && asked_marks (lawful_marks n k least) (marks_of r.text)) (Some (state_in (marks_of r.text))) None

-- where a line at fault starts, or what the lines after it come to
abbrev pub or_start : Option ℕ → ℕ → (ℕ → Option ℕ) → Option ℕ
or_start None start rest = Some start
or_start (Some q) start rest = rest (suc q)

-- 10: each other line is ended, has its layout and is lawful, and states rise; else where the first line at fault starts
abbrev pub mislabelled : ℕ → ℕ → ℕ → List Row → Option ℕ
mislabelled n k least [] = None
mislabelled n k least (r ∷ rs) = or_start (lawful_state n k least r) r.start (λ next. mislabelled n k next rs)

-- the questions in order; where each gets a yes, the names that the file lists
abbrev pub label_part : List ℕ → ℕ → List Name → Result (List Name) Fault
label_part file n known =
    ask (short file) LabelsTooLong (
    given (names_row (rows_of file)) (NamesLine 0) (λ names.
    pass (mislabelled n (length names) 0 (body file)) StateLine (
    ask (numbered (join_all known names)) TooManyPropositions (
    Ok names))))

-- what the numbers of the file stand for: the proposition that the vocabulary gives the name's number
abbrev pub masks : List Name → List Name → List ℕ
masks known names = map (bit_in known) names

-- one set more
abbrev pub add_set : ℕ → Option ℕ → ℕ
add_set set None = set
add_set set (Some more) = bit_or set more

-- the propositions that a line brings to the state q
abbrev pub add_marks : List ℕ → ℕ → ℕ → Result Marks LineFault → ℕ
add_marks ms q set (Err f) = set
add_marks ms q set (Ok m) = cond (m.state == q) (add_set set (set_of ms m.numbers)) set

abbrev pub add_row : List ℕ → ℕ → ℕ → Row → ℕ
add_row ms q set r = add_marks ms q set (marks_of r.text)

-- the set of propositions that the lines give the state q
abbrev pub labels_at : List ℕ → List Row → ℕ → ℕ
labels_at ms rows q = fold (add_row ms q) 0 rows
