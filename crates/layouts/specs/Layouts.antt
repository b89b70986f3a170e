-- What each line of the two files reads as, and where a line that has another layout leaves it. Numbers and quoted texts may be any:
-- what they are worth is asked later. Assumes nothing.
use Rattle.std.specs.Prelude.{ℕ, zero, suc, ◌+◌, ◌-◌, cond, List, [], ◌∷◌, length, take, drop, Some, None, Ok, Err, codes, Option, Result, ◌==◌}
use Rattle.layouts.specs.declared.fault.LineFault.{LineFault}
use Rattle.layouts.specs.declared.fault.LineFault.TheVariants.{Other}
use Rattle.layouts.specs.declared.transitions.Header.{Header}
use Rattle.layouts.specs.declared.transitions.TransitionLine.{TransitionLine}
use Rattle.layouts.specs.declared.number.Number.{Number}
use Rattle.layouts.specs.declared.labels.NameItem.{NameItem}
use Rattle.layouts.specs.declared.labels.ListedNumber.{ListedNumber}
use Rattle.layouts.specs.Pieces.{and_then, piece_at, line_number_at, unquoted, end_at}

-- des (I, M, N): the initial state, the number of transitions, the number of states
abbrev pub header_of : List ℕ → Result Header LineFault
header_of s =
    and_then (piece_at s 0 (codes "des (")) (λ a.
    and_then (line_number_at s a) (λ i.
    and_then (piece_at s i.after (codes ", ")) (λ b.
    and_then (line_number_at s b) (λ m.
    and_then (piece_at s m.after (codes ", ")) (λ c.
    and_then (line_number_at s c) (λ n.
    and_then (piece_at s n.after (codes ")")) (λ e.
    and_then (end_at s e) (λ _.
    Ok (record { initial = i.value; transitions = m.value; states = n.value })))))))))

-- the bytes from the place i up to the place j
abbrev pub between : List ℕ → ℕ → ℕ → List ℕ
between s i j = take (j - i) (drop i s)

-- the place of the next quote mark from the place i on, or the end of the line
abbrev pub quote_from : List ℕ → ℕ → ℕ
quote_from s i = i + unquoted (drop i s)

-- what a line of a transition says: where it starts, its label, its target
pub record Arrow : Type 0 where
  pub source : ℕ
  pub label : List ℕ
  pub target : ℕ

-- (F, "L", T)
abbrev pub transition_of : List ℕ → Result Arrow LineFault
transition_of s =
    and_then (piece_at s 0 (codes "(")) (λ a.
    and_then (line_number_at s a) (λ f.
    and_then (piece_at s f.after (codes ", \"")) (λ b.
    and_then (piece_at s (quote_from s b) (codes "\", ")) (λ c.
    and_then (line_number_at s c) (λ t.
    and_then (piece_at s t.after (codes ")")) (λ e.
    and_then (end_at s e) (λ _.
    Ok (record { source = f.value; label = between s b (quote_from s b); target = t.value }))))))))

-- after a part of a line that repeats: nothing, or a part from the next place on
abbrev pub go_on : {X : Type 0} → Option ℕ → (ℕ → Result (List X) LineFault) → Result (List X) LineFault
go_on None rest = Ok []
go_on (Some j) rest = rest j

-- part after part from the place i on, by a reader of one part that also tells where the next one starts, if any; each part takes
-- at least one byte, so as many turns as the line has bytes suffice
abbrev pub repeated : {X : Type 0} → (ℕ → Result (X × Option ℕ) LineFault) → ℕ → ℕ → Result (List X) LineFault
repeated one zero i = Err (Other i)
repeated one (suc turns) i = and_then (one i) (λ x. and_then (go_on x.1 (repeated one turns)) (λ xs. Ok (x.0 ∷ xs)))

-- an entry of the line of names: its number and its text
pub record Item : Type 0 where
  pub number : ℕ
  pub text : List ℕ

-- where the next entry starts, if the line goes on after a space
abbrev pub next_at : List ℕ → ℕ → Result (Option ℕ) LineFault
next_at s i = cond (i == length s) (Ok None) (and_then (piece_at s i (codes " ")) (λ j. Ok (Some j)))

-- k="text" at the place i, and where the next entry starts
abbrev pub item_at : List ℕ → ℕ → Result (Item × Option ℕ) LineFault
item_at s i =
    and_then (line_number_at s i) (λ k.
    and_then (piece_at s k.after (codes "=\"")) (λ a.
    and_then (piece_at s (quote_from s a) (codes "\"")) (λ b.
    and_then (next_at s b) (λ next.
    Ok (record { number = k.value; text = between s a (quote_from s a) }, next)))))

-- 0="init" 1="deadlock" 2="name" and so on
abbrev pub items_of : List ℕ → Result (List Item) LineFault
items_of s = repeated (item_at s) (suc (length s)) 0

-- q: at the start of a line of labels, with the place after it
abbrev pub state_at : List ℕ → Result Number LineFault
state_at s =
    and_then (line_number_at s 0) (λ q.
    and_then (piece_at s q.after (codes ":")) (λ a.
    Ok (record { value = q.value; after = a })))

-- a space and a number at the place i, and where the next ones start, if the line goes on
abbrev pub listed_at : List ℕ → ℕ → Result (ℕ × Option ℕ) LineFault
listed_at s i =
    and_then (piece_at s i (codes " ")) (λ a.
    and_then (line_number_at s a) (λ n.
    Ok (n.value, cond (n.after == length s) None (Some n.after))))

-- what a line of labels says: a state, and the numbers listed for it
pub record Marks : Type 0 where
  pub state : ℕ
  pub numbers : List ℕ

-- q: i j and so on, with at least one number
abbrev pub marks_of : List ℕ → Result Marks LineFault
marks_of s =
    and_then (state_at s) (λ q.
    and_then (repeated (listed_at s) (suc (length s)) q.after) (λ ns.
    Ok (record { state = q.value; numbers = ns })))

-- what the readers' results say, with the bytes behind a borrowed part in its place
abbrev pub seen_arrow : Result TransitionLine LineFault → Result Arrow LineFault
seen_arrow (Ok t) = Ok (record { source = t.source; label = t.label.now; target = t.target })
seen_arrow (Err f) = Err f

abbrev pub seen_item : Result NameItem LineFault → Result (Item × Option ℕ) LineFault
seen_item (Ok n) = Ok (record { number = n.number; text = n.text.now }, n.next)
seen_item (Err f) = Err f

abbrev pub seen_listed : Result ListedNumber LineFault → Result (ℕ × Option ℕ) LineFault
seen_listed (Ok n) = Ok (n.number, n.next)
seen_listed (Err f) = Err f
