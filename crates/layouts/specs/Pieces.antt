-- Fixed pieces and quoted text in a line, and chains of readings. Assumes nothing.
use Rattle.std.specs.Prelude.{ℕ, suc, ◌+◌, cond, List, [], ◌∷◌, length, drop, Ok, Err, Result, ⊤, ◌==◌}
use Rattle.layouts.specs.declared.number.Number.{Number}
use Rattle.layouts.specs.declared.fault.NumberFault.{NumberFault}
use Rattle.layouts.specs.declared.fault.LineFault.{LineFault}
use Rattle.layouts.specs.declared.fault.LineFault.TheVariants.{Digits, Other}
use Rattle.layouts.specs.Numbers.{number_at}

-- one reading after another: the first fault ends it
abbrev pub and_then : {X Y E : Type 0} → Result X E → (X → Result Y E) → Result Y E
and_then (Ok x) f = f x
and_then (Err e) f = Err e

-- how many bytes of the piece stand at the front of the text
abbrev pub matched : List ℕ → List ℕ → ℕ
matched s [] = 0
matched [] (p ∷ ps) = 0
matched (x ∷ xs) (p ∷ ps) = cond (x == p) (suc (matched xs ps)) 0

-- the piece at the place i of the line: the place after it, or the first byte that differs
abbrev pub piece_at : List ℕ → ℕ → List ℕ → Result ℕ LineFault
piece_at s i p = cond (matched (drop i s) p == length p) (Ok (i + length p)) (Err (Other (i + matched (drop i s) p)))

-- how many bytes stand before the first byte b
abbrev pub before : ℕ → List ℕ → ℕ
before b [] = 0
before b (x ∷ xs) = cond (x == b) 0 (suc (before b xs))

-- how many bytes stand before the first quote mark, byte 34
abbrev pub unquoted : List ℕ → ℕ
unquoted xs = before 34 xs

-- whether the line ends at the place i
abbrev pub end_at : List ℕ → ℕ → Result ⊤ LineFault
end_at s i = cond (i == length s) (Ok tt) (Err (Other i))

-- a number in a line; the line's fault carries the number's
abbrev pub in_line : Result Number NumberFault → Result Number LineFault
in_line (Ok n) = Ok n
in_line (Err f) = Err (Digits f)

abbrev pub line_number_at : List ℕ → ℕ → Result Number LineFault
line_number_at s i = in_line (number_at s i)
