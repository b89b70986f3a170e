-- Words of a text: which bytes they are made of, how far they reach, and which are reserved.
use Rattle.std.specs.Prelude.{◌≡◌, ℕ, suc, ◌+◌, ◌-◌, ◌<◌, ◌≤◌, Bool, true, false, cond, not, ◌&&◌, ◌||◌, List, [], ◌∷◌, length, drop, codes, ◌==◌, nat_le, slice_index}
use Rattle.classes.specs.Bytes.{class_rule}
use Rattle.classes.specs.Table.{same_class}
use Rattle.classes.specs.declared.Class.TheVariants.{Letter, Digit, Underscore, Dot}

-- the most bytes that a word has
abbrev pub word_limit : ℕ
word_limit = 24

-- a word starts with a letter or _
abbrev pub is_start : ℕ → Bool
is_start b = same_class (class_rule b) Letter || same_class (class_rule b) Underscore

-- inside a word stand letters, digits, _ and .
abbrev pub is_inner : ℕ → Bool
is_inner b = is_start b || (same_class (class_rule b) Digit || same_class (class_rule b) Dot)

-- an inner byte comes next
abbrev pub leads : List ℕ → Bool
leads [] = false
leads (x ∷ xs) = is_inner x

-- after a byte of a word the word goes on: with an inner byte, or with a colon (58) right before one
abbrev pub goes_on : List ℕ → Bool
goes_on [] = false
goes_on (x ∷ xs) = is_inner x || (x == 58 && leads xs)

-- how many bytes the word goes on for
abbrev pub word_len : List ℕ → ℕ
word_len [] = 0
word_len (x ∷ xs) = cond (goes_on (x ∷ xs)) (suc (word_len xs)) 0

-- the first byte is one that a word starts with
abbrev pub starts_word : List ℕ → Bool
starts_word [] = false
starts_word (x ∷ xs) = is_start x

-- the bytes are one word from the first to the last, and no longer than a word may be
abbrev pub is_word : List ℕ → Bool
is_word bytes = starts_word bytes && (word_len bytes == length bytes && nat_le (length bytes) word_limit)

-- the same bytes in the same order
abbrev pub same : List ℕ → List ℕ → Bool
same [] [] = true
same [] (y ∷ ys) = false
same (x ∷ xs) [] = false
same (x ∷ xs) (y ∷ ys) = x == y && same xs ys

-- the words that have a meaning of their own, and name nothing
abbrev pub reserved_words : List (List ℕ)
reserved_words =
    codes "true" ∷ codes "false" ∷ codes "FINAL" ∷ codes "not" ∷ codes "and" ∷ codes "or"
    ∷ codes "tau" ∷ codes "min" ∷ codes "max"
    ∷ codes "E" ∷ codes "A" ∷ codes "U" ∷ codes "EX" ∷ codes "AX" ∷ codes "EF" ∷ codes "AG" ∷ codes "i" ∷ []

-- the bytes are among the words
abbrev pub is_one_of : List (List ℕ) → List ℕ → Bool
is_one_of [] bytes = false
is_one_of (w ∷ ws) bytes = same bytes w || is_one_of ws bytes

abbrev pub is_reserved : List ℕ → Bool
is_reserved bytes = is_one_of reserved_words bytes

-- a name is a word that is not reserved
abbrev pub is_name : List ℕ → Bool
is_name bytes = is_word bytes && not (is_reserved bytes)

-- what may stand at place i of a word: an inner byte, or a colon between two inner bytes
abbrev pub may_stand : List ℕ → ℕ → Bool
may_stand bytes i =
    is_inner (slice_index bytes i) || (slice_index bytes i == 58 && (is_inner (slice_index bytes (i - 1)) && is_inner (slice_index bytes (i + 1))))

-- a word, said of each of its bytes
pub record WordBytes (bytes : List ℕ) : Type 0 where
  pub starts : starts_word bytes ≡ true
  pub short : length bytes ≤ word_limit
  pub stands : (i : ℕ) → i < length bytes → may_stand bytes i ≡ true

-- the bytes are a word exactly if each of them may stand where it does
abbrev pub WordsByBytes : Type 0
WordsByBytes = (bytes : List ℕ) → (is_word bytes ≡ true → WordBytes bytes) × (WordBytes bytes → is_word bytes ≡ true)

-- a word goes on at each place of its run, and no longer at the end of it
abbrev pub LongestRuns : Type 0
LongestRuns = (text : List ℕ) → ((k : ℕ) → k < word_len text → goes_on (drop k text) ≡ true) × (goes_on (drop (word_len text) text) ≡ false)

-- the test of two lists of bytes passes exactly if they are equal
abbrev pub SameIsEqual : Type 0
SameIsEqual = (a b : List ℕ) → (same a b ≡ true → a ≡ b) × (a ≡ b → same a b ≡ true)
