-- A word as three numbers of 64 bits, with eight bytes to a number.
use Rattle.std.specs.Prelude.{◌≡◌, ℕ, zero, suc, ◌+◌, ◌*◌, ◌/◌, ◌%◌, ◌^◌, Bool, true, cond, ◌&&◌, T, List, [], ◌∷◌, length, drop, Some, None, Option, ◌==◌, nat_lt, slice_index, map, encode_utf8_all}
use Rattle.std.specs.List.{range_with_len}
use Rattle.text.specs.Words.{word_limit, is_word, is_name}
use Rattle.text.specs.declared.names.Name.{Name}

-- the first n bytes as one number, the first byte lowest, and 0 past the end
abbrev pub packed : ℕ → List ℕ → ℕ
packed zero bytes = 0
packed (suc n) [] = 0
packed (suc n) (b ∷ bytes) = b + 256 * packed n bytes

-- the name that a word is kept as
abbrev pub name_of : List ℕ → Name
name_of bytes = record { first = packed 8 bytes; second = packed 8 (drop 8 bytes); third = packed 8 (drop 16 bytes) }

-- the name of the bytes, if they may be a name
abbrev pub named : List ℕ → Option Name
named bytes = cond (is_name bytes) (Some (name_of bytes)) None

-- the two names are one
abbrev pub same_name : Name → Name → Bool
same_name m n = m.first == n.first && (m.second == n.second && m.third == n.third)

-- the number that the byte at i stands in
abbrev pub part_of : Name → ℕ → ℕ
part_of n i = cond (nat_lt i 8) n.first (cond (nat_lt i 16) n.second (cond (nat_lt i word_limit) n.third 0))

-- the byte at i, and 0 where a name has none
abbrev pub byte_of : Name → ℕ → ℕ
byte_of n i = part_of n i / 2 ^ (8 * (i % 8)) % 256

-- how many bytes from i on, of k at most, come before the first 0
abbrev pub solid_from : Name → ℕ → ℕ → ℕ
solid_from n i zero = 0
solid_from n i (suc k) = cond (byte_of n i == 0) 0 (suc (solid_from n (i + 1) k))

-- the number of bytes of a name
abbrev pub length_of : Name → ℕ
length_of n = solid_from n 0 word_limit

-- the text that a name is shown as: each of its bytes as a character
abbrev pub text_of : Name → List ℕ
text_of n = encode_utf8_all (map (byte_of n) (range_with_len 0 (length_of n)))

-- the bytes of a word can be read back from its name, with 0 past the end
abbrev pub ReadsBack : Type 0
ReadsBack = (v : List ℕ) → T (is_word v) → (length_of (name_of v) ≡ length v) × ((i : ℕ) → byte_of (name_of v) i ≡ slice_index v i)

-- the name of a word is shown as that word
abbrev pub ShowsWords : Type 0
ShowsWords = (v : List ℕ) → T (is_word v) → text_of (name_of v) ≡ v

-- two words have one name exactly if they are one word
abbrev pub TellsWords : Type 0
TellsWords = (v w : List ℕ) → T (is_word v) → T (is_word w) → (name_of v ≡ name_of w → v ≡ w) × (v ≡ w → name_of v ≡ name_of w)

-- the test of two names passes exactly if they are one name
abbrev pub TellsNames : Type 0
TellsNames = (m n : Name) → (same_name m n ≡ true → m ≡ n) × (m ≡ n → same_name m n ≡ true)
