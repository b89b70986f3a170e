-- Decimal numbers of 1 to 4 digits with no leading zero: how they are read, and how they are written. Assumes nothing.
use Rattle.std.specs.Prelude.{◌≡◌, ℕ, suc, ◌+◌, ◌-◌, ◌*◌, ◌/◌, ◌%◌, ◌<◌, Bool, cond, ◌&&◌, List, [], ◌∷◌, ◌++◌, length, drop, is_some, Some, None, Ok, Err, Option, Result, ◌==◌, nat_le, nat_lt}
use Rattle.std.specs.Option.{unwrap_or}
use Rattle.layouts.specs.declared.number.Number.{Number}
use Rattle.layouts.specs.declared.fault.NumberFault.{NumberFault}

-- what a digit stands for: codes 48 to 57 stand for 0 to 9, and no other byte has a worth
abbrev pub digit_worth : ℕ → Option ℕ
digit_worth b = cond (nat_le 48 b && nat_le b 57) (Some (b - 48)) None

-- the worth of the first byte, if it is a digit
abbrev pub front_worth : List ℕ → Option ℕ
front_worth [] = None
front_worth (b ∷ bs) = digit_worth b

abbrev pub is_digit : ℕ → Bool
is_digit b = is_some (digit_worth b)

-- how many digits stand at the front
abbrev pub digits : List ℕ → ℕ
digits [] = 0
digits (b ∷ bs) = cond (is_digit b) (suc (digits bs)) 0

-- what the digits at the front are worth together, after digits that are worth v
abbrev pub worth : ℕ → List ℕ → ℕ
worth v [] = v
worth v (b ∷ bs) = cond (is_digit b) (worth (v * 10 + unwrap_or (digit_worth b) 0) bs) v

-- the number of digits of a number is at most this
abbrev pub most_digits : ℕ
most_digits = 4

-- whether the first digit is a zero and another digit follows
abbrev pub zero_leads : List ℕ → Bool
zero_leads bs = unwrap_or (front_worth bs) 1 == 0 && nat_lt 1 (digits bs)

-- the number that starts at the place i of the text; where it is none, the byte at which that shows:
-- where a digit should stand, a zero that leads, or the fifth digit
abbrev pub number_at : List ℕ → ℕ → Result Number NumberFault
number_at s i =
    cond (digits (drop i s) == 0) (Err (record { at = i })) (
    cond (zero_leads (drop i s)) (Err (record { at = i })) (
    cond (nat_lt most_digits (digits (drop i s))) (Err (record { at = i + most_digits })) (
    Ok (record { value = worth 0 (drop i s); after = i + digits (drop i s) }))))

-- the byte that stands for a number below 10
abbrev pub code : ℕ → ℕ
code d = 48 + d

-- the digits of a number below 10,000
abbrev pub numeral : ℕ → List ℕ
numeral n =
    cond (nat_lt n 10) (code n ∷ []) (
    cond (nat_lt n 100) (code (n / 10) ∷ (code (n % 10) ∷ [])) (
    cond (nat_lt n 1000) (code (n / 100) ∷ (code (n / 10 % 10) ∷ (code (n % 10) ∷ [])))
    (code (n / 1000) ∷ (code (n / 100 % 10) ∷ (code (n / 10 % 10) ∷ (code (n % 10) ∷ []))))))

-- at the place i of the text stands the numeral of n, up to the place j, and no further digit
pub record Stands (s : List ℕ) (i n j : ℕ) : Type 0 where
  pub small : n < 10000
  pub reach : j ≡ i + length (numeral n)
  pub text : drop i s ≡ numeral n ++ drop j s
  pub done : digits (drop j s) ≡ 0

-- a number is read exactly where its numeral stands and no further digit follows
abbrev pub Numerals : Type 0
Numerals = (s : List ℕ) (i : ℕ) (n : Number) →
    (number_at s i ≡ Ok n → Stands s i n.value n.after) × (Stands s i n.value n.after → number_at s i ≡ Ok n)
