-- Bytes packed into numbers, and read back from them.
use Rattle.std.proofs.Common.{◌≡◌, ℕ, zero, suc, ◌+◌, ◌-◌, ◌*◌, ◌/◌, ◌%◌, ◌^◌, ◌<◌, ◌≤◌, Bool, true, false, cond, not, ◌&&◌, eqb, List, [], ◌∷◌, length, get_or, slice_index, drop, sym, refl, ap, ◌∙◌, ⊎_elim, le_of_suc-le-suc, add-zero, mod-eq_of_lt, zero-add, div-one, arith}
use native.Mathlib.Nat.{pow-suc, zero-div, zero-mod, add-mul-mod_self_left}
use Rattle.std.specs.List.{AllByRecursion, prefix_len, range_with_len}
use Rattle.std.specs.Int.{w64, byte_at, bytes_low_first, from_le_bytes, to_le_bytes}
use Rattle.std.proofs.lemmas.Nat.{shr-shr, pow-add}
use Rattle.std.proofs.lemmas.List.{at_drop_more, at_drop_all, get_or_past, get_or-drop, ext_get_or}
use Rattle.std.proofs.lemmas.Bool.{cases_lt, and_parts, and_from, eqb-true, eq-eqb, ne_eqb, cond_below, cond_above}
use Rattle.text.specs.declared.names.Name.{Name}
use Rattle.text.specs.Names.{packed, name_of, same_name, part_of, byte_of, solid_from, length_of, ReadsBack, TellsWords, TellsNames}
use Rattle.text.proofs.Letters.{Solid, word_short, word_solid}

packed_none : (n : ℕ) → packed n [] ≡ 0
packed_none zero = refl
packed_none (suc n) = refl

pub packed_more : (n s : ℕ) (bytes : List ℕ) → packed (suc n) (drop s bytes) ≡ get_or bytes s 0 + 256 * packed n (drop (s + 1) bytes)
packed_more n s bytes = ⊎_elim
    (λ lt. at_drop_more (packed (suc n)) bytes s 0 lt)
    (λ le. let here : packed (suc n) (drop s bytes) ≡ 0 = at_drop_all (packed (suc n)) bytes s le in
    let next : packed n (drop (s + 1) bytes) ≡ 0 = at_drop_all (packed n) bytes (s + 1) (omega arith) ∙ packed_none n in
    omega (arith, here, next, get_or_past bytes s 0 le))
    (cases_lt s (length bytes))

-- the byte at j of a number that n bytes are packed in
digit : (n j : ℕ) (bytes : List ℕ) → AllByRecursion Solid bytes → j < n → packed n bytes / 2 ^ (8 * j) % 256 ≡ get_or bytes j 0
digit zero j bytes s h = absurd (omega arith)
digit (suc n) j [] s h = ap (λ m. m % 256) (zero-div (2 ^ (8 * j))) ∙ zero-mod 256
digit (suc n) zero (b ∷ bytes) s h = ap (λ m. m % 256) (div-one (b + 256 * packed n bytes)) ∙ add-mul-mod_self_left b 256 (packed n bytes) ∙ mod-eq_of_lt (omega (arith, s.0.1))
digit (suc n) (suc j) (b ∷ bytes) s h =
    let w = b + 256 * packed n bytes in
    let less : b < 256 = omega (arith, s.0.1) in
    let on : 8 * suc j ≡ 8 + 8 * j = omega arith in
    let rest : w / 256 ≡ packed n bytes = omega arith in
    ap (λ m. w / 2 ^ m % 256) on ∙ ap (λ m. m % 256) (sym (shr-shr w 8 (8 * j))) ∙ ap (λ m. m / 2 ^ (8 * j) % 256) rest ∙ digit n j bytes s.1 (le_of_suc-le-suc h)

solid_drop : (n : ℕ) (v : List ℕ) → AllByRecursion Solid v → AllByRecursion Solid (drop n v)
solid_drop zero v h = h
solid_drop (suc n) [] h = h
solid_drop (suc n) (b ∷ v) h = solid_drop n v h.1

-- the byte at i, in the number w that holds the bytes from d on
part_byte : (w d k i : ℕ) (v : List ℕ) → AllByRecursion Solid v → w ≡ packed 8 (drop d v) → k < 8 → i ≡ d + k → i % 8 ≡ k → w / 2 ^ (8 * (i % 8)) % 256 ≡ get_or v i 0
part_byte w d k i v s p h e m =
    (λ j. p j / 2 ^ (8 * m j) % 256) ∙ digit 8 k (drop d v) (solid_drop d v s) h ∙ get_or-drop d v k 0 ∙ ap (λ n. get_or v n 0) (sym e)

-- the number that the byte at i stands in
module _ (n : Name) (i : ℕ) where
  in_first : i < 8 → part_of n i ≡ n.first
  in_first h = sym (cond_below i 8 n.first _ h)

  in_second : 8 ≤ i → i < 16 → part_of n i ≡ n.second
  in_second l h = sym (cond_above i 8 n.first _ n.second l (cond_below i 16 n.second _ h))

  in_third : 16 ≤ i → i < 24 → part_of n i ≡ n.third
  in_third l h = sym (cond_above i 8 n.first _ n.third (omega arith) (cond_above i 16 n.second _ n.third l (cond_below i 24 n.third 0 h)))

  in_none : 24 ≤ i → part_of n i ≡ 0
  in_none l = sym (cond_above i 8 n.first _ 0 (omega arith) (cond_above i 16 n.second _ 0 (omega arith) (cond_above i 24 n.third 0 0 l refl)))

byte_back : (v : List ℕ) → AllByRecursion Solid v → length v ≤ 24 → (i : ℕ) → byte_of (name_of v) i ≡ get_or v i 0
byte_back v s h i =
    ⊎_elim (λ lt. part_byte _ 0 i i v s (in_first (name_of v) i lt) lt (omega arith) (omega arith))
    (λ a. ⊎_elim (λ lt. part_byte _ 8 (i - 8) i v s (in_second (name_of v) i a lt) (omega arith) (omega arith) (omega arith))
    (λ b. ⊎_elim (λ lt. part_byte _ 16 (i - 16) i v s (in_third (name_of v) i b lt) (omega arith) (omega arith) (omega arith))
    (λ c. ap (λ w. w / 2 ^ (8 * (i % 8)) % 256) (in_none (name_of v) i c) ∙ ap (λ w. w % 256) (zero-div (2 ^ (8 * (i % 8)))) ∙ zero-mod 256 ∙ sym (get_or_past v i 0 (omega arith)))
    (cases_lt i 24))
    (cases_lt i 16))
    (cases_lt i 8)

-- a count of a name's bytes up to i: one more, and its end
module _ (n : Name) (i total : ℕ) (h : i < 24) (inv : i + solid_from n i (24 - i) ≡ total) where
  left : 24 - i ≡ suc (24 - (i + 1))
  left = omega arith

  pub solid_more : (byte_of n i ≡ 0 → ⊥) → (i + 1 ≤ 24) × ((i + 1) + solid_from n (i + 1) (24 - (i + 1)) ≡ total)
  solid_more e =
      let on : solid_from n i (24 - i) ≡ suc (solid_from n (i + 1) (24 - (i + 1))) = ap (solid_from n i) left ∙ ap (λ t. cond t 0 (suc (solid_from n (i + 1) (24 - (i + 1))))) (ne_eqb (byte_of n i) 0 e) in
      (omega arith, omega (arith, on))

  pub solid_stop : byte_of n i ≡ 0 → i ≡ total
  solid_stop e =
      let end : solid_from n i (24 - i) ≡ 0 = ap (solid_from n i) left ∙ ap (λ t. cond t 0 (suc (solid_from n (i + 1) (24 - (i + 1))))) (eq-eqb (byte_of n i) 0 e) in
      omega (arith, end)

solid_length : (n : Name) (k i : ℕ) (xs : List ℕ) → AllByRecursion Solid xs → length xs ≤ k → ((j : ℕ) → byte_of n (i + j) ≡ get_or xs j 0) → solid_from n i k ≡ length xs
solid_length n zero i [] s h e = refl
solid_length n zero i (x ∷ xs) s h e = absurd (omega arith)
solid_length n (suc k) i [] s h e = ap (λ t. cond t 0 (suc (solid_from n (i + 1) k))) (eq-eqb (byte_of n i) 0 (ap (byte_of n) (sym (add-zero i)) ∙ e 0))
solid_length n (suc k) i (x ∷ xs) s h e =
    let here : byte_of n i ≡ x = ap (byte_of n) (sym (add-zero i)) ∙ e 0 in
    let on : (j : ℕ) → byte_of n ((i + 1) + j) ≡ get_or xs j 0 = λ j. let m : (i + 1) + j ≡ i + suc j = omega arith in ap (byte_of n) m ∙ e (suc j) in
    let some : eqb (byte_of n i) 0 ≡ false = ne_eqb (byte_of n i) 0 (λ z. omega (arith, s.0.0)) in
    ap (λ t. cond t 0 (suc (solid_from n (i + 1) k))) some ∙ ap suc (solid_length n k (i + 1) xs s.1 (le_of_suc-le-suc h) on)

pub reads_back : ReadsBack
reads_back v t =
    let back = byte_back v (word_solid v t) (word_short v t) in
    (solid_length (name_of v) 24 0 v (word_solid v t) (word_short v t) (λ j. ap (byte_of (name_of v)) (zero-add j) ∙ back j), back)

pub tells_words : TellsWords
tells_words v w p q =
    let a = reads_back v p in
    let b = reads_back w q in
    (λ e. ext_get_or 0 v w (sym a.0 ∙ ap length_of e ∙ b.0) (λ i h. sym (a.1 i) ∙ ap (λ n. byte_of n i) e ∙ b.1 i), ap name_of)

pub tells_names : TellsNames
tells_names m n = (same, λ e. ap (same_name m) (sym e) ∙ itself)
  where
    itself : same_name m m ≡ true
    itself = and_from _ _ (eq-eqb m.first m.first refl) (and_from _ _ (eq-eqb m.second m.second refl) (eq-eqb m.third m.third refl))

    same : same_name m n ≡ true → m ≡ n
    same e =
        let a = and_parts (eqb m.first n.first) (eqb m.second n.second && eqb m.third n.third) e in
        let b = and_parts (eqb m.second n.second) (eqb m.third n.third) a.1 in
        λ i. record { first = eqb-true m.first n.first a.0 i; second = eqb-true m.second n.second b.0 i; third = eqb-true m.third n.third b.1 i }

-- a name has as many bytes as come before the first 0
pub prefix_solid : (n : Name) (i k : ℕ) → prefix_len (λ m. not (eqb (byte_of n m) 0)) (range_with_len i k) ≡ solid_from n i k
prefix_solid n i zero = refl
prefix_solid n i (suc k) = by (eqb (byte_of n i) 0) (prefix_solid n (i + 1) k)
  where
    more : ℕ
    more = prefix_len (λ m. not (eqb (byte_of n m) 0)) (range_with_len (i + 1) k)

    by : (b : Bool) → more ≡ solid_from n (i + 1) k → cond (not b) (1 + more) 0 ≡ cond b 0 (suc (solid_from n (i + 1) k))
    by true e = refl
    by false e = omega (arith, e)

-- eight bytes as the library makes a number of them
pub packed_le : (bytes ys : List ℕ) → ((k : ℕ) → k < 8 → slice_index ys k ≡ get_or bytes k 0) → from_le_bytes w64 ys ≡ packed 8 bytes
packed_le bytes ys at = omega (
  arith,
  at 0 (omega arith),
  at 1 (omega arith),
  at 2 (omega arith),
  at 3 (omega arith),
  at 4 (omega arith),
  at 5 (omega arith),
  at 6 (omega arith),
  at 7 (omega arith),
  packed_more 7 0 bytes,
  packed_more 6 1 bytes,
  packed_more 5 2 bytes,
  packed_more 4 3 bytes,
  packed_more 3 4 bytes,
  packed_more 2 5 bytes,
  packed_more 1 6 bytes,
  packed_more 0 7 bytes,
)

power : (k : ℕ) → 256 ^ k ≡ 2 ^ (8 * k)
power zero = refl
power (suc k) =
    let on : 8 * suc k ≡ 8 * k + 8 = omega arith in
    pow-suc 256 k ∙ ap (λ m. m * 256) (power k) ∙ sym (pow-add 2 (8 * k) 8) ∙ ap (λ m. 2 ^ m) (sym on)

byte_power : (n k : ℕ) → byte_at k n ≡ n / 2 ^ (8 * k) % 256
byte_power n zero = ap (λ m. m % 256) (sym (div-one n))
byte_power n (suc k) = ap (λ m. n / m % 256) (power (suc k))

low_first : (n i m k : ℕ) → k < m → slice_index (bytes_low_first i m n) k ≡ byte_at (i + k) n
low_first n i zero k h = absurd (omega arith)
low_first n i (suc m) zero h = ap (λ j. byte_at j n) (omega arith)
low_first n i (suc m) (suc k) h = low_first n (suc i) m k (omega (arith, h)) ∙ ap (λ j. byte_at j n) (omega arith)

-- the byte at k of the eight that the library makes of a number
pub le_byte : (n k : ℕ) → k < 8 → slice_index (to_le_bytes w64 n) k ≡ n / 2 ^ (8 * k) % 256
le_byte n k h = low_first n 0 8 k h ∙ ap (λ j. byte_at j n) (zero-add k) ∙ byte_power n k
