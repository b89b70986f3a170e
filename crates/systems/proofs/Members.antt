-- Sets of numbers as bits: what is in a union, in a set of one, and past the width of a set. Assumes nothing.
use Rattle.std.proofs.Common.{◌≡◌, ℕ, ◌^◌, ◌<◌, ◌≤◌, max, false, ◌||◌, eqb, sym, ap, ◌∙◌, ⊎_elim, arith}
use Rattle.std.specs.Int.{bit_at}
use Rattle.std.specs.Int.Bits.{bit_or}
use Rattle.std.proofs.lemmas.Nat.Bits.{bit_at_or, bit_at-pow_same, bit_at-pow_other, bit_at_above, bit_at-lt}
use Rattle.std.proofs.lemmas.Bool.{cases_eq, eq-eqb, ne_eqb}
use Rattle.systems.specs.Meaning.{member}

-- the greater of two bits is set where either is
max_set : (x y : ℕ) → x < 2 → y < 2 → eqb (max x y) 1 ≡ (eqb x 1 || eqb y 1)
max_set x y h k = grind arith

-- what is in a union is in one of its parts
pub member_or : (a b k : ℕ) → member (bit_or a b) k ≡ (member a k || member b k)
member_or a b k = ap (λ n. eqb n 1) (bit_at_or a b k) ∙ max_set (bit_at a k) (bit_at b k) (bit_at-lt a k) (bit_at-lt b k)

-- a set of one has that one alone
pub member_one : (s k : ℕ) → member (2 ^ s) k ≡ eqb s k
member_one s k = ⊎_elim
    (λ same. ap (λ n. eqb (bit_at (2 ^ n) k) 1) same ∙ ap (λ n. eqb n 1) (bit_at-pow_same k) ∙ sym (eq-eqb s k same))
    (λ other. ap (λ n. eqb n 1) (bit_at-pow_other s k (λ e. other (sym e))) ∙ sym (ne_eqb s k other))
    (cases_eq s k)

-- a set that fits 64 bits has no member from 64 up
pub member_past : (s k : ℕ) → s < 2 ^ 64 → 64 ≤ k → member s k ≡ false
member_past s k h le = ap (λ n. eqb n 1) (bit_at_above s 64 k h le)
