-- The bytes of a word: none is 0, and each is below 128.
use Rattle.std.proofs.Common.{◌≡◌, ℕ, zero, suc, ◌<◌, ◌≤◌, Bool, true, false, cond, ◌&&◌, ◌||◌, T, eqb, List, [], ◌∷◌, length, sym, refl, ap, ◌∙◌, ⊎_elim, arith}
use Rattle.std.specs.List.{AllByRecursion}
use Rattle.std.proofs.lemmas.Bool.{cases_lt, and_parts, or_cases, eqb-true, false≢true, lt-leb, le-leb, ne_eqb}
use Rattle.classes.specs.Bytes.{class_rule}
use Rattle.classes.specs.declared.Class.TheVariants.{Letter, Underscore, Digit, Dot, Other}
use Rattle.classes.specs.Table.{same_class}
use Rattle.text.specs.Words.{word_limit, is_inner, leads, goes_on, word_len, is_word}
use Rattle.text.proofs.Runs.{word_whole, by_bytes}

pub T_true : (b : Bool) → T b → b ≡ true
T_true true t = refl
T_true false t = absurd t

pub true_T : (b : Bool) → b ≡ true → T b
true_T true e = tt
true_T false e = absurd (false≢true e)

-- no number past ASCII has a class of its own
other : (b : ℕ) → 128 ≤ b → class_rule b ≡ Other
other b h =
    simp (
      le-leb 65 b (omega arith),
      lt-leb b 90 (omega arith),
      le-leb 97 b (omega arith),
      lt-leb b 122 (omega arith),
      le-leb 48 b (omega arith),
      lt-leb b 57 (omega arith),
      ne_eqb b 95 (λ e. omega arith),
      ne_eqb b 46 (λ e. omega arith),
      ne_eqb b 58 (λ e. omega arith),
      ne_eqb b 40 (λ e. omega arith),
      ne_eqb b 41 (λ e. omega arith),
      ne_eqb b 91 (λ e. omega arith),
      ne_eqb b 93 (λ e. omega arith),
      ne_eqb b 123 (λ e. omega arith),
      ne_eqb b 125 (λ e. omega arith),
      ne_eqb b 60 (λ e. omega arith),
      ne_eqb b 62 (λ e. omega arith),
      ne_eqb b 32 (λ e. omega arith),
      ne_eqb b 10 (λ e. omega arith),
    )

high : (b : ℕ) → 128 ≤ b → is_inner b ≡ false
high b h = ap (λ c. (same_class c Letter || same_class c Underscore) || (same_class c Digit || same_class c Dot)) (other b h)

-- an ASCII byte that is not 0
abbrev pub Solid : ℕ → Type 0
Solid b = (0 < b) × (b < 128)

pub inner_solid : (b : ℕ) → is_inner b ≡ true → Solid b
inner_solid zero e = absurd (false≢true e)
inner_solid (suc n) e = (omega arith, ⊎_elim (λ lt. lt) (λ le. absurd (false≢true (sym (high (suc n) le) ∙ e))) (cases_lt (suc n) 128))

goes_solid : (x : ℕ) (xs : List ℕ) → goes_on (x ∷ xs) ≡ true → Solid x
goes_solid x xs e = ⊎_elim (inner_solid x) (λ f. let is : x ≡ 58 = eqb-true x 58 (and_parts (eqb x 58) (leads xs) f).0 in (omega arith, omega arith)) (or_cases (is_inner x) (eqb x 58 && leads xs) e)

run_solid : (xs : List ℕ) → word_len xs ≡ length xs → AllByRecursion Solid xs
run_solid [] e = tt
run_solid (x ∷ xs) e = by (goes_on (x ∷ xs)) refl (run_solid xs)
  where
    by : (b : Bool) → goes_on (x ∷ xs) ≡ b → (word_len xs ≡ length xs → AllByRecursion Solid xs) → AllByRecursion Solid (x ∷ xs)
    by true g rest = (goes_solid x xs g, rest (omega (arith, ap (λ t. cond t (suc (word_len xs)) 0) g)))
    by false g rest = absurd (omega (arith, ap (λ t. cond t (suc (word_len xs)) 0) g))

pub word_short : (v : List ℕ) → T (is_word v) → length v ≤ word_limit
word_short v t = ((by_bytes v).0 (T_true (is_word v) t)).short

pub word_solid : (v : List ℕ) → T (is_word v) → AllByRecursion Solid v
word_solid v t = run_solid v (word_whole v (T_true (is_word v) t))
