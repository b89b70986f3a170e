-- The symbols of a text. Assumes nothing.
use Rattle.std.specs.Prelude.{ℕ, zero, suc, Bool, true, false, cond, List, [], ◌∷◌, length, Some, None, codes, Option, ◌==◌}
use denote.Bor.{Bor}
use Rattle.text.specs.Words.{same}
use Rattle.text.specs.Names.{named}
use Rattle.text.specs.declared.names.Name.{Name}
use Rattle.lexer.specs.declared.Mark.{Mark}
use Rattle.lexer.specs.declared.Mark.TheVariants as the
use Rattle.lexer.specs.Tokens.{Sign, end, mark, word, Next, got, refused, token_at}
use Rattle.symbols.specs.declared.Symbol.{Symbol}
use Rattle.symbols.specs.declared.Symbol.TheVariants as symbol
use Rattle.symbols.specs.declared.Found.{Found}

-- the number of a mark or a reserved word; all names have one number
abbrev pub symbol_number : Symbol → ℕ
symbol_number symbol.End = 0
symbol_number symbol.OpenRound = 1
symbol_number symbol.CloseRound = 2
symbol_number symbol.OpenSquare = 3
symbol_number symbol.CloseSquare = 4
symbol_number symbol.OpenCurly = 5
symbol_number symbol.CloseCurly = 6
symbol_number symbol.OpenAngle = 7
symbol_number symbol.CloseAngle = 8
symbol_number symbol.Colon = 9
symbol_number symbol.True = 10
symbol_number symbol.False = 11
symbol_number symbol.Final = 12
symbol_number symbol.Not = 13
symbol_number symbol.And = 14
symbol_number symbol.Or = 15
symbol_number symbol.Tau = 16
symbol_number symbol.Min = 17
symbol_number symbol.Max = 18
symbol_number symbol.Exists = 19
symbol_number symbol.All = 20
symbol_number symbol.Until = 21
symbol_number symbol.ExistsNext = 22
symbol_number symbol.AllNext = 23
symbol_number symbol.Eventually = 24
symbol_number symbol.Always = 25
symbol_number symbol.Silent = 26
symbol_number (symbol.Name n) = 27

-- the two are one mark or reserved word, or both names
abbrev pub is : Symbol → Symbol → Bool
is s t = symbol_number s == symbol_number t

abbrev pub mark_symbol : Mark → Symbol
mark_symbol the.OpenRound = symbol.OpenRound
mark_symbol the.CloseRound = symbol.CloseRound
mark_symbol the.OpenSquare = symbol.OpenSquare
mark_symbol the.CloseSquare = symbol.CloseSquare
mark_symbol the.OpenCurly = symbol.OpenCurly
mark_symbol the.CloseCurly = symbol.CloseCurly
mark_symbol the.OpenAngle = symbol.OpenAngle
mark_symbol the.CloseAngle = symbol.CloseAngle
mark_symbol the.Colon = symbol.Colon

-- the reserved words that are operators on formulas of states, and `i`
abbrev pub operator_symbol : List ℕ → Symbol
operator_symbol w =
    cond (same w (codes "min")) symbol.Min (
    cond (same w (codes "max")) symbol.Max (
    cond (same w (codes "E")) symbol.Exists (
    cond (same w (codes "A")) symbol.All (
    cond (same w (codes "U")) symbol.Until (
    cond (same w (codes "EX")) symbol.ExistsNext (
    cond (same w (codes "AX")) symbol.AllNext (
    cond (same w (codes "EF")) symbol.Eventually (
    cond (same w (codes "AG")) symbol.Always symbol.Silent))))))))

-- all reserved words
abbrev pub reserved_symbol : List ℕ → Symbol
reserved_symbol w =
    cond (same w (codes "true")) symbol.True (
    cond (same w (codes "false")) symbol.False (
    cond (same w (codes "FINAL")) symbol.Final (
    cond (same w (codes "not")) symbol.Not (
    cond (same w (codes "and")) symbol.And (
    cond (same w (codes "or")) symbol.Or (
    cond (same w (codes "tau")) symbol.Tau (operator_symbol w)))))))

-- the symbol of the first entry that is spelled so, else that of `i`
abbrev pub symbol_in : List (Bor (List ℕ) × Symbol) → List ℕ → Symbol
symbol_in [] w = symbol.Silent
symbol_in (e ∷ entries) w = cond (same w e.0.now) e.1 (symbol_in entries w)

abbrev pub name_or : Option Name → Symbol → Symbol
name_or (Some n) s = symbol.Name n
name_or None s = s

-- the symbol that a word is: a name, or what a reserved word means
abbrev pub word_symbol : List ℕ → Symbol
word_symbol w = name_or (named w) (reserved_symbol w)

abbrev pub symbol_of : Sign → Symbol
symbol_of end = symbol.End
symbol_of (mark m) = mark_symbol m
symbol_of (word w) = word_symbol w

-- what comes next, with the place behind it; what is no token is taken for the end
abbrev pub found_in : Next → Found
found_in (got s start after) = record { symbol = symbol_of s; after = after }
found_in (refused at) = record { symbol = symbol.End; after = at }

abbrev pub symbol_at : List ℕ → ℕ → Found
symbol_at text i = found_in (token_at text i)

-- the place behind the symbol, where it comes next
abbrev pub accept_at : List ℕ → ℕ → Symbol → Option ℕ
accept_at text i wanted = cond (is (symbol_at text i).symbol wanted) (Some (symbol_at text i).after) None

-- a symbol before others, unless it is the end
abbrev pub before : Symbol → List Symbol → List Symbol
before s rest = cond (is s symbol.End) [] (s ∷ rest)

-- what is left behind the symbol, where it comes first
abbrev pub taken : Symbol → List Symbol → Option (List Symbol)
taken wanted [] = None
taken wanted (s ∷ rest) = cond (is s wanted) (Some rest) None

-- each symbol takes a byte at least, so as many turns as there are bytes reach the end
unfoldable pub symbols_in : ℕ → List ℕ → ℕ → List Symbol
symbols_in zero text i = []
symbols_in (suc turns) text i = before (symbol_at text i).symbol (symbols_in turns text (symbol_at text i).after)

-- the symbols from the place i on, up to the end of the text or to what is no token
abbrev pub symbols_from : List ℕ → ℕ → List Symbol
symbols_from text i = symbols_in (suc (length text)) text i

abbrev pub lexes_after : Next → (ℕ → Bool) → Bool
lexes_after (got end start after) rest = true
lexes_after (got (mark m) start after) rest = rest after
lexes_after (got (word w) start after) rest = rest after
lexes_after (refused at) rest = false

unfoldable pub lexes_in : ℕ → List ℕ → ℕ → Bool
lexes_in zero text i = false
lexes_in (suc turns) text i = lexes_after (token_at text i) (lexes_in turns text)

-- the text is tokens from the place i on up to its end
abbrev pub lexes_from : List ℕ → ℕ → Bool
lexes_from text i = lexes_in (suc (length text)) text i

abbrev pub lexes : List ℕ → Bool
lexes text = lexes_from text 0
