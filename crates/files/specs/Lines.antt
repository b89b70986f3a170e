-- The lines of a file. Assumes nothing.
use Rattle.std.specs.Prelude.{◌≡◌, ℕ, suc, ◌+◌, Bool, true, false, cond, List, [], ◌∷◌, ◌++◌, length, take, drop, Some, None, Option, ◌==◌, nat_lt}
use Rattle.std.specs.List.{flat_map, AllByRecursion}
use Rattle.layouts.specs.Pieces.{before}
use Rattle.files.specs.declared.line.Line.{Line}
use Rattle.files.specs.declared.lines.Lines.{Lines}

-- a line: the place where it starts, its bytes without the byte 10 that ends it, and whether there is one
pub record Row : Type 0 where
  pub start : ℕ
  pub text : List ℕ
  pub ended : Bool

-- one byte more before the lines of the rest: it belongs to the first of them, or is a line of its own that is not ended
abbrev pub lead : ℕ → ℕ → List Row → List Row
lead at x [] = record { start = at; text = x ∷ []; ended = false } ∷ []
lead at x (r ∷ rs) = record { start = at; text = x ∷ r.text; ended = r.ended } ∷ rs

-- the lines of bytes that start at the place `at` of a file
abbrev pub rows_from : ℕ → List ℕ → List Row
rows_from at [] = []
rows_from at (x ∷ xs) = cond (x == 10) (record { start = at; text = []; ended = true } ∷ rows_from (suc at) xs) (lead at x (rows_from (suc at) xs))

-- the lines of a file
abbrev pub rows_of : List ℕ → List Row
rows_of file = rows_from 0 file

-- the bytes before the first byte 10, or all
abbrev pub line_of : List ℕ → List ℕ
line_of bytes = take (before 10 bytes) bytes

-- where the line that starts at the place `at` ends
abbrev pub end_of : List ℕ → ℕ → ℕ
end_of file at = at + before 10 (drop at file)

-- the line that starts at the place `at`, and the place after it; none at the file's end and past it
abbrev pub line_at : List ℕ → ℕ → Option (Row × ℕ)
line_at file at =
    cond (nat_lt at (length file))
    (Some (record { start = at; text = line_of (drop at file); ended = nat_lt (end_of file at) (length file) }, end_of file at + cond (nat_lt (end_of file at) (length file)) 1 0))
    None

-- a line's bytes, with the byte 10 that ends it
abbrev pub printed_row : Row → List ℕ
printed_row r = r.text ++ cond r.ended (10 ∷ []) []

-- no byte 10 stands in a line
abbrev pub Whole : Row → Type 0
Whole r = before 10 r.text ≡ length r.text

-- lines follow one another from the place `at` on, and each but the last is ended
abbrev pub Follow : ℕ → List Row → Type 0
Follow at [] = Unit {0}
Follow at (r ∷ []) = r.start ≡ at
Follow at (r ∷ (s ∷ rs)) = (r.start ≡ at) × (r.ended ≡ true) × Follow (at + length (printed_row r)) (s ∷ rs)

-- the lines of a file are its bytes, cut behind each byte 10
abbrev pub RowsTile : Type 0
RowsTile = (file : List ℕ) → (flat_map printed_row (rows_of file) ≡ file) × AllByRecursion Whole (rows_of file) × Follow 0 (rows_of file)

-- what the reader of a line gives, with the bytes in place of the borrowed part
abbrev pub seen_line : Option Line → Option (Row × ℕ)
seen_line None = None
seen_line (Some l) = Some (record { start = l.start; text = l.text.now; ended = l.ended }, l.after)

-- a line that was read, as a row
abbrev pub row_of : Line → Row
row_of l = record { start = l.start; text = l.text.now; ended = l.ended }

-- the lines that are still to come
abbrev pub rows_left : Lines → List Row
rows_left s = rows_from s.at (drop s.at s.file.now)
