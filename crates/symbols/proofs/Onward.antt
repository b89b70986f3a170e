-- Each token brings a reader on, so that enough turns reach the end. Assumes nothing.
use Rattle.std.proofs.Common.{◌≡◌, ℕ, zero, suc, ◌+◌, ◌-◌, ◌<◌, ◌≤◌, Bool, true, false, cond, T, ltb, List, [], ◌∷◌, length, take, drop, Some, None, Option, sym, refl, ap, ◌∙◌, subst, arith, length-drop}
use Rattle.text.specs.Words.{word_limit, is_start, word_len}
use Rattle.lexer.specs.declared.Mark.{Mark}
use Rattle.lexer.specs.declared.Token.{Token}
use Rattle.lexer.specs.declared.Token.TheVariants as token
use Rattle.lexer.specs.Tokens.{mark_of, blanks, end, mark, word, Next, got, refused, word_at, by_mark, front_token, token_at, sign_of}
use Rattle.lexer.proofs.Found.{word_short}
use Rattle.symbols.specs.declared.Symbol.{Symbol}
use Rattle.symbols.specs.declared.Symbol.TheVariants as symbol
use Rattle.symbols.specs.Symbols.{is, found_in, symbol_at, before, symbols_in, symbols_from, lexes_after, lexes_in, lexes_from}

-- a mark or a word came
abbrev pub Brings : Next → Type 0
Brings (got end start after) = ⊥
Brings (got (mark m) start after) = Unit {0}
Brings (got (word w) start after) = Unit {0}
Brings (refused at) = ⊥

abbrev pub behind : Next → ℕ
behind (got s start after) = after
behind (refused at) = at

abbrev Onward : ℕ → ℕ → Next → Type 0
Onward j n next = Brings next → (j < behind next) × (behind next ≤ j + n)

word_onward : (b : Bool) (n : ℕ) (xs : List ℕ) (j l : ℕ) → n ≤ l → Onward j (suc l) (cond b (got (word (take (suc n) xs)) j (j + suc n)) (refused j))
word_onward true n xs j l h brings = omega arith
word_onward false n xs j l h brings = absurd brings

start_onward : (b : Bool) (x : ℕ) (xs : List ℕ) (j : ℕ) → Onward j (suc (length xs)) (cond b (word_at (word_len xs) (x ∷ xs) j) (refused j))
start_onward true x xs j brings = word_onward (ltb (word_len xs) word_limit) (word_len xs) (x ∷ xs) j (length xs) (word_short xs) brings
start_onward false x xs j brings = absurd brings

mark_onward : (m : Option Mark) (x : ℕ) (xs : List ℕ) (j : ℕ) → Onward j (suc (length xs)) (by_mark m x xs j)
mark_onward (Some m) x xs j brings = omega arith
mark_onward None x xs j brings = start_onward (is_start x) x xs j brings

front_onward : (xs : List ℕ) (j : ℕ) → Onward j (length xs) (front_token xs j)
front_onward [] j brings = absurd brings
front_onward (x ∷ xs) j brings = mark_onward (mark_of x) x xs j brings

-- behind a token the place is further on, and still in the text
pub token_onward : (text : List ℕ) (i : ℕ) → Brings (token_at text i) → (i < behind (token_at text i)) × (behind (token_at text i) ≤ length text)
token_onward text i brings =
    let j : ℕ = i + blanks (drop i text) in
    let h = front_onward (drop j text) j brings in
    (omega (arith, h.0), omega (arith, h.0, h.1, length-drop j text))

-- a symbol other than the end comes from a token
abbrev pub NotEnd : Symbol → Type 0
NotEnd s = is s symbol.End ≡ false

symbol_brings : (next : Next) → NotEnd (found_in next).symbol → Brings next
symbol_brings (got end start after) h = absurd (subst T h tt)
symbol_brings (got (mark m) start after) h = tt
symbol_brings (got (word w) start after) h = tt
symbol_brings (refused at) h = absurd (subst T h tt)

behind_found : (next : Next) → (found_in next).after ≡ behind next
behind_found (got s start after) = refl
behind_found (refused at) = refl

pub symbol_onward : (text : List ℕ) (i : ℕ) → NotEnd (symbol_at text i).symbol → (i < (symbol_at text i).after) × ((symbol_at text i).after ≤ length text)
symbol_onward text i h =
    let o = token_onward text i (symbol_brings (token_at text i) h) in
    let e = behind_found (token_at text i) in
    (omega (arith, o.0, e), omega (arith, o.1, e))

same_before : (s : Symbol) (xs ys : List Symbol) → (NotEnd s → xs ≡ ys) → before s xs ≡ before s ys
same_before s xs ys h = go (is s symbol.End) refl
  where
    go : (b : Bool) → is s symbol.End ≡ b → cond b [] (s ∷ xs) ≡ cond b [] (s ∷ ys)
    go true e = refl
    go false e = ap (λ l. s ∷ l) (h e)

-- more turns than bytes are left change nothing
symbols_turns : (text : List ℕ) (n m i : ℕ) → length text - i < n → length text - i < m → symbols_in n text i ≡ symbols_in m text i
unfolding symbols_in
symbols_turns text zero m i hn hm = absurd (omega arith)
symbols_turns text (suc n) zero i hn hm = absurd (omega arith)
symbols_turns text (suc n) (suc m) i hn hm =
    same_before (symbol_at text i).symbol _ _ (λ h.
    let o = symbol_onward text i h in
    symbols_turns text n m (symbol_at text i).after (omega (arith, o.0, o.1)) (omega (arith, o.0, o.1)))

-- the symbols from a place on are the one that comes next and those behind it
pub symbols_next : (text : List ℕ) (i : ℕ) → symbols_from text i ≡ before (symbol_at text i).symbol (symbols_from text (symbol_at text i).after)
unfolding symbols_in
symbols_next text i =
    same_before (symbol_at text i).symbol _ _ (λ h.
    let o = symbol_onward text i h in
    symbols_turns text (length text) (suc (length text)) (symbol_at text i).after (omega (arith, o.0, o.1)) (omega arith))

same_after : (next : Next) (f g : ℕ → Bool) → (Brings next → f (behind next) ≡ g (behind next)) → lexes_after next f ≡ lexes_after next g
same_after (got end start after) f g h = refl
same_after (got (mark m) start after) f g h = h tt
same_after (got (word w) start after) f g h = h tt
same_after (refused at) f g h = refl

lexes_turns : (text : List ℕ) (n m i : ℕ) → length text - i < n → length text - i < m → lexes_in n text i ≡ lexes_in m text i
unfolding lexes_in
lexes_turns text zero m i hn hm = absurd (omega arith)
lexes_turns text (suc n) zero i hn hm = absurd (omega arith)
lexes_turns text (suc n) (suc m) i hn hm =
    same_after (token_at text i) _ _ (λ h.
    let o = token_onward text i h in
    lexes_turns text n m (behind (token_at text i)) (omega (arith, o.0, o.1)) (omega (arith, o.0, o.1)))

pub lexes_next : (text : List ℕ) (i : ℕ) → lexes_from text i ≡ lexes_after (token_at text i) (lexes_from text)
unfolding lexes_in
lexes_next text i =
    same_after (token_at text i) _ _ (λ h.
    let o = token_onward text i h in
    lexes_turns text (length text) (suc (length text)) (behind (token_at text i)) (omega (arith, o.0, o.1)) (omega arith))

-- a token that came, by the lexer's answer
module _ (text : List ℕ) (at start after : ℕ) where
  token_brings : (t : Token) → (t ≡ token.End → ⊥) → Brings (got (sign_of t) start after)
  token_brings token.End n = absurd (n refl)
  token_brings (token.Mark m) n = tt
  token_brings (token.Word w) n = tt

  pub lexed_onward : (t : Token) → got (sign_of t) start after ≡ token_at text at → (t ≡ token.End → ⊥) → (at < after) × (after ≤ length text)
  lexed_onward t e n =
      let o = token_onward text at (subst Brings e (token_brings t n)) in
      let b : after ≡ behind (token_at text at) = ap behind e in
      (omega (arith, o.0), omega (arith, o.1))

  after_token : (t : Token) → (t ≡ token.End → ⊥) → lexes_after (got (sign_of t) start after) (lexes_from text) ≡ lexes_from text after
  after_token token.End n = absurd (n refl)
  after_token (token.Mark m) n = refl
  after_token (token.Word w) n = refl

  pub lexed_more : (t : Token) → got (sign_of t) start after ≡ token_at text at → (t ≡ token.End → ⊥) → lexes_from text after ≡ lexes_from text at
  lexed_more t e n = sym (lexes_next text at ∙ ap (λ next. lexes_after next (lexes_from text)) (sym e) ∙ after_token t n)

  pub lexed_end : (t : Token) → got (sign_of t) start after ≡ token_at text at → t ≡ token.End → true ≡ lexes_from text at
  lexed_end t e end_is = sym (lexes_next text at ∙ ap (λ next. lexes_after next (lexes_from text)) (sym e) ∙ ap (λ x. lexes_after (got (sign_of x) start after) (lexes_from text)) end_is)

pub lexed_fault : (text : List ℕ) (at place : ℕ) → refused place ≡ token_at text at → false ≡ lexes_from text at
lexed_fault text at place e = sym (lexes_next text at ∙ ap (λ next. lexes_after next (lexes_from text)) (sym e))
