-- A run of a text, byte by byte, and two lists of bytes side by side.
use Rattle.std.proofs.Common.{◌≡◌, ℕ, zero, suc, ◌+◌, ◌-◌, ◌<◌, ◌≤◌, Bool, true, false, cond, ◌&&◌, ◌||◌, eqb, leb, ◌⊎◌, List, [], ◌∷◌, length, get_or, drop, sym, refl, ap, ◌∙◌, inl, inr, ⊎_elim, arith}
use lib.Pointwise.{pointwise}
use Rattle.std.specs.List.{range_with_len, prefix_len, list_any}
use Rattle.std.proofs.lemmas.List.{drop_all, drop_more, at_drop_more, at_drop_all, get_or_past}
use Rattle.std.proofs.lemmas.Bool.{cases_lt, false≢true, both_ways, and_right, and_parts, and_from, or_cases, or_left, or_right, eq-eqb, ne_eqb, eqb-true, leb-true, le-leb}
use Rattle.text.specs.Words.{word_limit, is_start, is_inner, leads, goes_on, word_len, starts_word, is_word, same, is_one_of, may_stand, WordBytes, WordsByBytes, LongestRuns, SameIsEqual}

-- a word at i goes on by the byte there, or by the one after it
module _ (s : List ℕ) (i : ℕ) (h : i < length s) where
  goes_at : goes_on (drop i s) ≡ (is_inner (get_or s i 0) || (eqb (get_or s i 0) 58 && leads (drop (i + 1) s)))
  goes_at = at_drop_more goes_on s i 0 h

  goes_outer : is_inner (get_or s i 0) ≡ false → goes_on (drop i s) ≡ (eqb (get_or s i 0) 58 && leads (drop (i + 1) s))
  goes_outer e = goes_at ∙ ap (λ b. b || (eqb (get_or s i 0) 58 && leads (drop (i + 1) s))) e

  pub goes_inner : is_inner (get_or s i 0) ≡ true → goes_on (drop i s) ≡ true
  goes_inner e = goes_at ∙ ap (λ b. b || (eqb (get_or s i 0) 58 && leads (drop (i + 1) s))) e

  pub goes_colon : is_inner (get_or s i 0) ≡ false → get_or s i 0 ≡ 58 → goes_on (drop i s) ≡ leads (drop (i + 1) s)
  goes_colon e f = goes_outer e ∙ ap (λ b. b && leads (drop (i + 1) s)) (eq-eqb (get_or s i 0) 58 f)

  pub goes_none : is_inner (get_or s i 0) ≡ false → (get_or s i 0 ≡ 58 → ⊥) → goes_on (drop i s) ≡ false
  goes_none e f = goes_outer e ∙ ap (λ b. b && leads (drop (i + 1) s)) (ne_eqb (get_or s i 0) 58 f)

-- where a word goes on there is a byte
pub goes_within : (s : List ℕ) (i : ℕ) → goes_on (drop i s) ≡ true → i < length s
goes_within s i e = ⊎_elim (λ lt. lt) (λ le. absurd (false≢true (sym (at_drop_all goes_on s i le) ∙ e))) (cases_lt i (length s))

pub word_stop : (xs : List ℕ) → goes_on xs ≡ false → word_len xs ≡ 0
word_stop [] e = refl
word_stop (x ∷ xs) e = ap (λ b. cond b (suc (word_len xs)) 0) e

pub word_more : (s : List ℕ) (i : ℕ) → goes_on (drop i s) ≡ true → word_len (drop i s) ≡ suc (word_len (drop (i + 1) s))
word_more s i e =
    let apart = drop_more s i 0 (goes_within s i e) in
    ap word_len apart ∙ ap (λ b. cond b (suc (word_len (drop (i + 1) s))) 0) (sym (ap goes_on apart) ∙ e)

pub same_long : (a b : List ℕ) → (length a ≡ length b → ⊥) → same a b ≡ false
same_long [] [] h = absurd (h refl)
same_long [] (y ∷ ys) h = refl
same_long (x ∷ xs) [] h = refl
same_long (x ∷ xs) (y ∷ ys) h = and_right (eqb x y) (same xs ys) (same_long xs ys (λ e. h (ap suc e)))

pub same_more : (a b : List ℕ) (n : ℕ) → n < length a → n < length b → same (drop n a) (drop n b) ≡ (eqb (get_or a n 0) (get_or b n 0) && same (drop (n + 1) a) (drop (n + 1) b))
same_more a b n h l = λ j. same (drop_more a n 0 h j) (drop_more b n 0 l j)

pub same_all : (a b : List ℕ) (n : ℕ) → length a ≤ n → length b ≤ n → same (drop n a) (drop n b) ≡ true
same_all a b n h l = λ j. same (drop_all n a h j) (drop_all n b l j)

pub same_equal : SameIsEqual
same_equal a b = (equal a b, λ e. ap (same a) (sym e) ∙ itself a)
  where
    equal : (xs ys : List ℕ) → same xs ys ≡ true → xs ≡ ys
    equal [] [] e = refl
    equal [] (y ∷ ys) e = absurd (false≢true e)
    equal (x ∷ xs) [] e = absurd (false≢true e)
    equal (x ∷ xs) (y ∷ ys) e =
        let both = and_parts (eqb x y) (same xs ys) e in
        λ j. eqb-true x y both.0 j ∷ equal xs ys both.1 j

    itself : (xs : List ℕ) → same xs xs ≡ true
    itself [] = refl
    itself (x ∷ xs) = and_from (eqb x x) (same xs xs) (eq-eqb x x refl) (itself xs)

-- a run goes on up to its end, and stops there
goes_on_lem : (xs : List ℕ) (k : ℕ) → k < word_len xs → goes_on (drop k xs) ≡ true
goes_on_lem [] k h = absurd (omega arith)
goes_on_lem (x ∷ xs) k h = by (goes_on (x ∷ xs)) refl k h (goes_on_lem xs)
  where
    by : (b : Bool) → goes_on (x ∷ xs) ≡ b → (k : ℕ) → k < word_len (x ∷ xs) → ((j : ℕ) → j < word_len xs → goes_on (drop j xs) ≡ true) → goes_on (drop k (x ∷ xs)) ≡ true
    by true g zero l rest = g
    by true g (suc k) l rest = rest k (omega (arith, ap (λ t. cond t (suc (word_len xs)) 0) g))
    by false g k l rest = absurd (omega (arith, ap (λ t. cond t (suc (word_len xs)) 0) g))

stops : (xs : List ℕ) → goes_on (drop (word_len xs) xs) ≡ false
stops [] = refl
stops (x ∷ xs) = by (goes_on (x ∷ xs)) refl (stops xs)
  where
    by : (b : Bool) → goes_on (x ∷ xs) ≡ b → goes_on (drop (word_len xs) xs) ≡ false → goes_on (drop (word_len (x ∷ xs)) (x ∷ xs)) ≡ false
    by true g rest = ap (λ t. goes_on (drop (cond t (suc (word_len xs)) 0) (x ∷ xs))) g ∙ rest
    by false g rest = ap (λ t. goes_on (drop (cond t (suc (word_len xs)) 0) (x ∷ xs))) g ∙ g

pub longest : LongestRuns
longest xs = (goes_on_lem xs, stops xs)

-- where it goes on everywhere, the run is the whole
whole : (xs : List ℕ) → ((k : ℕ) → k < length xs → goes_on (drop k xs) ≡ true) → word_len xs ≡ length xs
whole [] h = refl
whole (x ∷ xs) h = ap (λ t. cond t (suc (word_len xs)) 0) (h 0 (omega arith)) ∙ ap suc (whole xs (λ k l. h (suc k) (omega arith)))

leads_is : (s : List ℕ) (i : ℕ) → leads (drop i s) ≡ is_inner (get_or s i 0)
leads_is s i = ⊎_elim (λ lt. at_drop_more leads s i 0 lt) (λ le. at_drop_all leads s i le ∙ ap is_inner (sym (get_or_past s i 0 le))) (cases_lt i (length s))

start_inner : (xs : List ℕ) → starts_word xs ≡ true → is_inner (get_or xs 0 0) ≡ true
start_inner [] e = absurd (false≢true e)
start_inner (x ∷ xs) e = or_left (is_start x) _ e

-- a byte of a run is inner, or a colon with an inner byte after it
at_byte : (s : List ℕ) (i : ℕ) → goes_on (drop i s) ≡ true → (is_inner (get_or s i 0) ≡ true) ⊎ ((get_or s i 0 ≡ 58) × (is_inner (get_or s (i + 1) 0) ≡ true))
at_byte s i e =
    let x = get_or s i 0 in
    ⊎_elim inl
    (λ f. let both = and_parts (eqb x 58) (leads (drop (i + 1) s)) f in inr (eqb-true x 58 both.0, sym (leads_is s (i + 1)) ∙ both.1))
    (or_cases (is_inner x) (eqb x 58 && leads (drop (i + 1) s)) (sym (goes_at s i (goes_within s i e)) ∙ e))

colon_outer : (x : ℕ) → x ≡ 58 → is_inner x ≡ false
colon_outer x e = ap is_inner e

-- before a colon of a run stands an inner byte
before : (s : List ℕ) → starts_word s ≡ true → ((k : ℕ) → k < length s → goes_on (drop k s) ≡ true) → (i : ℕ) → i < length s → get_or s i 0 ≡ 58 → is_inner (get_or s (i - 1) 0) ≡ true
before s e all zero h c = start_inner s e
before s e all (suc j) h c =
    let back : suc j - 1 ≡ j = omega arith in
    let on : suc j ≡ j + 1 = omega arith in
    ap (λ m. is_inner (get_or s m 0)) back
    ∙ ⊎_elim (λ f. f) (λ f. absurd (both_ways _ (colon_outer (get_or s (suc j) 0) c) (ap (λ m. is_inner (get_or s m 0)) on ∙ f.1))) (at_byte s j (all j (omega arith)))

stands : (s : List ℕ) → starts_word s ≡ true → ((k : ℕ) → k < length s → goes_on (drop k s) ≡ true) → (i : ℕ) → i < length s → may_stand s i ≡ true
stands s e all i h =
    let x = get_or s i 0 in
    ⊎_elim (λ f. or_left (is_inner x) _ f)
    (λ f. or_right (is_inner x) _ (and_from (eqb x 58) _ (eq-eqb x 58 f.0) (and_from _ _ (before s e all i h f.0) f.1)))
    (at_byte s i (all i h))

goes_by : (s : List ℕ) (i : ℕ) → i < length s → may_stand s i ≡ true → goes_on (drop i s) ≡ true
goes_by s i h e =
    let x = get_or s i 0 in
    ⊎_elim (goes_inner s i h)
    (λ f. let both = and_parts (eqb x 58) _ f in
    let colon : x ≡ 58 = eqb-true x 58 both.0 in
    goes_colon s i h (colon_outer x colon) colon ∙ leads_is s (i + 1) ∙ (and_parts _ _ both.1).1)
    (or_cases (is_inner x) _ e)

pub word_whole : (s : List ℕ) → is_word s ≡ true → word_len s ≡ length s
word_whole s e =
    let rest = (and_parts (starts_word s) (eqb (word_len s) (length s) && leb (length s) word_limit) e).1 in
    eqb-true (word_len s) (length s) (and_parts (eqb (word_len s) (length s)) (leb (length s) word_limit) rest).0

pub by_bytes : WordsByBytes
by_bytes s = (to, from)
  where
    to : is_word s ≡ true → WordBytes s
    to e =
        let a = and_parts (starts_word s) (eqb (word_len s) (length s) && leb (length s) word_limit) e in
        let few = (and_parts (eqb (word_len s) (length s)) (leb (length s) word_limit) a.1).1 in
        record {
          starts = a.0;
          short = leb-true (length s) word_limit few;
          stands = stands s a.0 (λ k h. goes_on_lem s k (omega (arith, word_whole s e)));
        }

    from : WordBytes s → is_word s ≡ true
    from w =
        let long : word_len s ≡ length s = whole s (λ k h. goes_by s k h (w.stands k h)) in
        and_from _ _ w.starts (and_from _ _ (eq-eqb (word_len s) (length s) long) (le-leb (length s) word_limit w.short))

-- a run has as many places as it goes on for
pub prefix_run : (s : List ℕ) (at n : ℕ) → length s ≤ at + n → prefix_len (λ i. goes_on (drop i s)) (range_with_len at n) ≡ word_len (drop at s)
prefix_run s at zero h = sym (at_drop_all word_len s at (omega arith))
prefix_run s at (suc n) h = by (goes_on (drop at s)) refl (prefix_run s (at + 1) n (omega (arith, h)))
  where
    more : ℕ
    more = prefix_len (λ i. goes_on (drop i s)) (range_with_len (at + 1) n)

    by : (b : Bool) → goes_on (drop at s) ≡ b → more ≡ word_len (drop (at + 1) s) → cond (goes_on (drop at s)) (1 + more) 0 ≡ word_len (drop at s)
    by true e rest = ap (λ b. cond b (1 + more) 0) e ∙ omega (arith, rest, word_more s at e)
    by false e rest = ap (λ b. cond b (1 + more) 0) e ∙ sym (word_stop (drop at s) e)

eqb_swap : (x y : ℕ) → eqb x y ≡ eqb y x
eqb_swap x y = grind arith

-- bytes side by side, one way round and the other
pub same_pointwise : (a b : List ℕ) → pointwise eqb a b ≡ same b a
same_pointwise [] [] = refl
same_pointwise [] (y ∷ b) = refl
same_pointwise (x ∷ a) [] = refl
same_pointwise (x ∷ a) (y ∷ b) = λ j. eqb_swap x y j && same_pointwise a b j

pub any_is_one : (words : List (List ℕ)) (bytes : List ℕ) → list_any (λ w. pointwise eqb w bytes) words ≡ is_one_of words bytes
any_is_one [] bytes = refl
any_is_one (w ∷ words) bytes = λ j. same_pointwise w bytes j || any_is_one words bytes j
