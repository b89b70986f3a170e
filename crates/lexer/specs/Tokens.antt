-- The tokens of a text. Assumes nothing.
use Rattle.std.specs.Prelude.{ℕ, suc, ◌+◌, Bool, true, false, cond, List, [], ◌∷◌, take, drop, Some, None, Ok, Err, Option, Result, nat_lt}
use Rattle.classes.specs.Bytes.{class_rule}
use Rattle.classes.specs.declared.Class.{Class}
use Rattle.classes.specs.declared.Class.TheVariants as class
use Rattle.text.specs.Words.{word_limit, is_start, word_len}
use Rattle.lexer.specs.declared.Mark.{Mark}
use Rattle.lexer.specs.declared.Mark.TheVariants as the
use Rattle.lexer.specs.declared.Token.{Token}
use Rattle.lexer.specs.declared.Token.TheVariants as token
use Rattle.lexer.specs.declared.Placed.{Placed}
use Rattle.lexer.specs.declared.TokenFault.{TokenFault}

-- space and byte 10 divide
abbrev pub blank_class : Class → Bool
blank_class class.Letter = false
blank_class class.Digit = false
blank_class class.Underscore = false
blank_class class.Dot = false
blank_class class.Colon = false
blank_class class.OpenRound = false
blank_class class.CloseRound = false
blank_class class.OpenSquare = false
blank_class class.CloseSquare = false
blank_class class.OpenCurly = false
blank_class class.CloseCurly = false
blank_class class.OpenAngle = false
blank_class class.CloseAngle = false
blank_class class.Space = true
blank_class class.LineEnd = true
blank_class class.Other = false

-- the marks are ( ) [ ] { } < > :
abbrev pub mark_class : Class → Option Mark
mark_class class.Letter = None
mark_class class.Digit = None
mark_class class.Underscore = None
mark_class class.Dot = None
mark_class class.Colon = Some the.Colon
mark_class class.OpenRound = Some the.OpenRound
mark_class class.CloseRound = Some the.CloseRound
mark_class class.OpenSquare = Some the.OpenSquare
mark_class class.CloseSquare = Some the.CloseSquare
mark_class class.OpenCurly = Some the.OpenCurly
mark_class class.CloseCurly = Some the.CloseCurly
mark_class class.OpenAngle = Some the.OpenAngle
mark_class class.CloseAngle = Some the.CloseAngle
mark_class class.Space = None
mark_class class.LineEnd = None
mark_class class.Other = None

abbrev pub is_blank : ℕ → Bool
is_blank b = blank_class (class_rule b)

abbrev pub mark_of : ℕ → Option Mark
mark_of b = mark_class (class_rule b)

-- how many blanks stand at the front
abbrev pub blanks : List ℕ → ℕ
blanks [] = 0
blanks (x ∷ xs) = cond (is_blank x) (suc (blanks xs)) 0

-- a token: the end of the text, a mark, or a word with its bytes
pub data Sign : Type 0 where
  end : Sign
  mark : Mark → Sign
  word : List ℕ → Sign

-- what comes next: a token from a start up to before a place, or a fault at a place
pub data Next : Type 0 where
  got : Sign → ℕ → ℕ → Next
  refused : ℕ → Next

-- a word starts with a letter or _ and has at most 24 bytes: here one that starts at j and goes on for n bytes
abbrev pub word_at : ℕ → List ℕ → ℕ → Next
word_at n xs j = cond (nat_lt n word_limit) (got (word (take (suc n) xs)) j (j + suc n)) (refused j)

abbrev pub by_mark : Option Mark → ℕ → List ℕ → ℕ → Next
by_mark (Some m) x xs j = got (mark m) j (j + 1)
by_mark None x xs j = cond (is_start x) (word_at (word_len xs) (x ∷ xs) j) (refused j)

-- the token that the text begins with, at the place j
abbrev pub front_token : List ℕ → ℕ → Next
front_token [] j = got end j j
front_token (x ∷ xs) j = by_mark (mark_of x) x xs j

-- the token that comes next from the place i on, behind blanks
abbrev pub token_at : List ℕ → ℕ → Next
token_at text i = front_token (drop (i + blanks (drop i text)) text) (i + blanks (drop i text))

-- what the lexer gives, with the bytes of a word in place of the borrowed part
abbrev pub sign_of : Token → Sign
sign_of token.End = end
sign_of (token.Mark m) = mark m
sign_of (token.Word w) = word w.now

abbrev pub seen_token : Result Placed TokenFault → Next
seen_token (Ok p) = got (sign_of p.token) p.start p.after
seen_token (Err f) = refused f.at
