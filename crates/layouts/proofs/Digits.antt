-- A run of digits, digit by digit, and its numeral. Assumes nothing.
use Rattle.std.specs.List.{take_while, prefix_len}
use Rattle.std.proofs.lemmas.List.Folds.{length-prefix_len}
use Rattle.std.proofs.Common.{take, ◌≡◌, ℕ, zero, suc, min, ◌+◌, ◌-◌, ◌*◌, ◌/◌, ◌%◌, ◌<◌, ◌≤◌, Bool, true, false, cond, ◌&&◌, eqb, ltb, leb, List, [], ◌∷◌, ◌++◌, map, length, drop, is_some, Some, None, Ok, Err, Option, Result, unwrap_or, sym, refl, ap, ◌∙◌, subst, ⊎_elim, arith, drop-drop, eq-eqb, ne_eqb, le-leb}
use lib.ListN.{length-map}
use Rattle.std.proofs.lemmas.Bool.{cond-true, cond-false, lt-ltb, le-ltb, ltb-false, cases_lt, and_parts, leb-true}
use Rattle.std.specs.List.{AllByRecursion}
use Rattle.layouts.specs.declared.number.Number.{Number}
use Rattle.layouts.specs.declared.fault.NumberFault.{NumberFault}
use Rattle.layouts.specs.Numbers.{digit_worth, front_worth, is_digit, digits, worth, zero_leads, number_at, code, numeral, Stands, Numerals}

-- a digit is 48 more than its worth, which is below 10
pub from_worth : (b d : ℕ) → digit_worth b ≡ Some d → (b ≡ 48 + d) × (d < 10)
from_worth b d = go (leb 48 b && leb b 57) refl
  where
    go : (t : Bool) → (leb 48 b && leb b 57) ≡ t → cond t (Some (b - 48)) None ≡ Some d → (b ≡ 48 + d) × (d < 10)
    go true e h =
        let low : 48 ≤ b = leb-true 48 b (and_parts (leb 48 b) (leb b 57) e).0 in
        let high : b ≤ 57 = leb-true b 57 (and_parts (leb 48 b) (leb b 57) e).1 in
        let same : b - 48 ≡ d = cc in
        (omega arith, omega arith)
    go false e h = absurd (let z : ◌≡◌ {A = ℕ} 0 1 = cc in omega arith)

pub to_worth : (d : ℕ) → d < 10 → digit_worth (48 + d) ≡ Some d
to_worth d h =
    let low : leb 48 (48 + d) ≡ true = le-leb 48 (48 + d) (omega arith) in
    let high : leb (48 + d) 57 ≡ true = le-leb (48 + d) 57 (omega arith) in
    let back : (48 + d) - 48 ≡ d = omega arith in
    (λ i. cond (low i && high i) (Some (back i)) None)

-- what the library counts
pub digits_is : (xs : List ℕ) → length (take_while is_digit xs) ≡ digits xs
digits_is xs = length-prefix_len is_digit xs ∙ counted xs
  where
    counted : (ys : List ℕ) → prefix_len is_digit ys ≡ digits ys
    counted [] = refl
    counted (b ∷ bs) = let e : 1 + prefix_len is_digit bs ≡ suc (digits bs) = omega (arith, counted bs) in ap (λ n. cond (is_digit b) n 0) e

-- of the digits in a front, at most as many are counted as it has bytes
pub digits_front : (n : ℕ) (xs : List ℕ) → digits (take n xs) ≡ min n (digits xs)
digits_front zero xs = omega arith
digits_front (suc n) [] = omega arith
digits_front (suc n) (b ∷ bs) = go (is_digit b) (digits_front n bs)
  where
    go : (t : Bool) → digits (take n bs) ≡ min n (digits bs) → cond t (suc (digits (take n bs))) 0 ≡ min (suc n) (cond t (suc (digits bs)) 0)
    go true e = omega (arith, e)
    go false e = omega arith

pub digits_few : (xs : List ℕ) → digits xs ≤ length xs
digits_few [] = omega arith
digits_few (b ∷ bs) = go (is_digit b) (digits_few bs)
  where
    go : (t : Bool) → digits bs ≤ length bs → cond t (suc (digits bs)) 0 ≤ suc (length bs)
    go true h = omega arith
    go false h = omega arith

-- what stands behind the digits is not read
pub worth_cut : (xs : List ℕ) (v : ℕ) → worth v (take (digits xs) xs) ≡ worth v xs
worth_cut [] v = refl
worth_cut (b ∷ bs) v = go (is_digit b) refl (worth_cut bs)
  where
    go : (t : Bool) → is_digit b ≡ t → ((u : ℕ) → worth u (take (digits bs) bs) ≡ worth u bs) → worth v (take (cond t (suc (digits bs)) 0) (b ∷ bs)) ≡ cond t (worth (v * 10 + unwrap_or (digit_worth b) 0) bs) v
    go true e ih = ap (λ t. cond t (worth (v * 10 + unwrap_or (digit_worth b) 0) (take (digits bs) bs)) v) e ∙ ih (v * 10 + unwrap_or (digit_worth b) 0)
    go false e ih = refl

-- what number_at says in each case
abbrev Given : List ℕ → ℕ → Bool → Bool → Bool → Result Number NumberFault
Given s i none led long =
    cond none (Err (record { at = i })) (
    cond led (Err (record { at = i })) (
    cond long (Err (record { at = i + 4 })) (
    Ok (record { value = worth 0 (drop i s); after = i + digits (drop i s) }))))

is : (s : List ℕ) (i : ℕ) (a b c : Bool) → eqb (digits (drop i s)) 0 ≡ a → zero_leads (drop i s) ≡ b → ltb 4 (digits (drop i s)) ≡ c → number_at s i ≡ Given s i a b c
is s i a b c p q r = λ j. Given s i (p j) (q j) (r j)

-- whether a zero leads is told by the first digit and the next
pub leads_none : (xs : List ℕ) (d : ℕ) → front_worth xs ≡ Some d → (d ≡ 0 → ⊥) → zero_leads xs ≡ false
leads_none xs d e ne = (λ j. eqb (unwrap_or (e j) 1) 0 && ltb 1 (digits xs)) ∙ ap (λ b. b && ltb 1 (digits xs)) (ne_eqb d 0 ne)

pub leads_alone : (xs : List ℕ) → digits xs ≤ 1 → zero_leads xs ≡ false
leads_alone xs h = ap (λ b. eqb (unwrap_or (front_worth xs) 1) 0 && b) (le-ltb 1 (digits xs) h) ∙ off (eqb (unwrap_or (front_worth xs) 1) 0)
  where
    off : (b : Bool) → (b && false) ≡ false
    off true = refl
    off false = refl

pub leads_zero : (xs : List ℕ) (d : ℕ) → front_worth xs ≡ Some d → d ≡ 0 → 1 < digits xs → zero_leads xs ≡ true
leads_zero xs d e z h = (λ j. eqb (unwrap_or (e j) 1) 0 && ltb 1 (digits xs)) ∙ (λ j. eq-eqb d 0 z j && lt-ltb 1 (digits xs) h j)

module _ (s : List ℕ) (i : ℕ) (some : 0 < digits (drop i s)) where
  first : eqb (digits (drop i s)) 0 ≡ false
  first = ne_eqb _ 0 (λ e. omega arith)

  pub number_good : zero_leads (drop i s) ≡ false → digits (drop i s) ≤ 4 → number_at s i ≡ Ok (record { value = worth 0 (drop i s); after = i + digits (drop i s) })
  number_good z h = is s i false false false first z (le-ltb 4 _ h)

-- digits as numbers below 10, and their value after digits of the value v
abbrev pub value : ℕ → List ℕ → ℕ
value v [] = v
value v (d ∷ ds) = value (v * 10 + d) ds

abbrev pub Small : List ℕ → Type 0
Small ds = AllByRecursion (λ d. d < 10) ds

digits_codes : (ds ys : List ℕ) → Small ds → digits (map code ds ++ ys) ≡ length ds + digits ys
digits_codes [] ys h = omega arith
digits_codes (d ∷ ds) ys h =
    let here : digits (code d ∷ (map code ds ++ ys)) ≡ suc (digits (map code ds ++ ys)) = ap (λ o. cond (is_some o) (suc (digits (map code ds ++ ys))) 0) (to_worth d h.0) in
    omega (arith, here, digits_codes ds ys h.1)

worth_codes : (ds ys : List ℕ) (v : ℕ) → Small ds → worth v (map code ds ++ ys) ≡ worth (value v ds) ys
worth_codes [] ys v h = refl
worth_codes (d ∷ ds) ys v h =
    ap (λ o. cond (is_some o) (worth (v * 10 + unwrap_or o 0) (map code ds ++ ys)) v) (to_worth d h.0) ∙ worth_codes ds ys (v * 10 + d) h.1

worth_end : (ys : List ℕ) (v : ℕ) → digits ys ≡ 0 → worth v ys ≡ v
worth_end [] v h = refl
worth_end (b ∷ bs) v h = go (digit_worth b) refl
  where
    go : (o : Option ℕ) → digit_worth b ≡ o → worth v (b ∷ bs) ≡ v
    go None e = ap (λ o. cond (is_some o) (worth (v * 10 + unwrap_or o 0) bs) v) e
    go (Some d) e = absurd (let z : digits (b ∷ bs) ≡ suc (digits bs) = ap (λ o. cond (is_some o) (suc (digits bs)) 0) e in omega arith)

-- a list that begins with k digits is their codes and the rest
pub record Run (k : ℕ) (xs : List ℕ) : Type 0 where
  pub ds : List ℕ
  pub small : Small ds
  pub long : length ds ≡ k
  pub is : xs ≡ map code ds ++ drop k xs
  pub done : digits (drop k xs) ≡ 0

pub run : (k : ℕ) (xs : List ℕ) → digits xs ≡ k → Run k xs
run zero xs h = record { ds = []; small = tt; long = refl; is = refl; done = h }
run (suc k) [] h = absurd (omega arith)
run (suc k) (b ∷ bs) h = go (digit_worth b) refl (run k bs)
  where
    go : (o : Option ℕ) → digit_worth b ≡ o → (digits bs ≡ k → Run k bs) → Run (suc k) (b ∷ bs)
    go None e rest = absurd (let z : digits (b ∷ bs) ≡ 0 = ap (λ o. cond (is_some o) (suc (digits bs)) 0) e in omega arith)
    go (Some d) e rest =
        let z : digits (b ∷ bs) ≡ suc (digits bs) = ap (λ o. cond (is_some o) (suc (digits bs)) 0) e in
        let r = rest (omega arith) in
        let head : b ≡ code d = (from_worth b d e).0 in
        record {
          ds = d ∷ r.ds;
          small = ((from_worth b d e).1, r.small);
          long = ap suc r.long;
          is = (λ j. head j ∷ r.is j);
          done = r.done;
        }

-- which digits a numeral has: one, or more with no leading zero
abbrev pub Led : List ℕ → Type 0
Led [] = ⊥
Led (a ∷ []) = a < 10
Led (a ∷ (b ∷ ds)) = (1 ≤ a) × Small (a ∷ (b ∷ ds)) × (length ds ≤ 2)

ltb_no : (a b : ℕ) → b ≤ a → ltb a b ≡ false
ltb_no a b h = le-ltb a b h

numeral_led : (ds : List ℕ) → Led ds → (numeral (value 0 ds) ≡ map code ds) × (value 0 ds < 10000)
numeral_led [] h = absurd h
numeral_led (a ∷ []) h =
    let v : 0 * 10 + a ≡ a = omega arith in
    (ap numeral v ∙ cond-true (ltb a 10) _ _ (lt-ltb a 10 h), omega arith)
numeral_led (a ∷ (b ∷ [])) h =
    let n : ℕ = (0 * 10 + a) * 10 + b in
    let small = h.1 in
    let p : n / 10 ≡ a = omega (arith, small.0, small.1.0) in
    let q : n % 10 ≡ b = omega (arith, small.0, small.1.0) in (
      cond-false (ltb n 10) _ _ (ltb_no n 10 (omega (arith, h.0))) ∙ cond-true (ltb n 100) _ _ (lt-ltb n 100 (omega (arith, small.0, small.1.0))) ∙ (λ j. code (p j) ∷ (code (q j) ∷ [])),
      omega (arith, small.0, small.1.0),
    )
numeral_led (a ∷ (b ∷ (c ∷ []))) h =
    let n : ℕ = ((0 * 10 + a) * 10 + b) * 10 + c in
    let small = h.1 in
    let p : n / 100 ≡ a = omega (arith, small.0, small.1.0, small.1.1.0) in
    let q : n / 10 % 10 ≡ b = omega (arith, small.0, small.1.0, small.1.1.0) in
    let r : n % 10 ≡ c = omega (arith, small.0, small.1.0, small.1.1.0) in (
      cond-false (ltb n 10) _ _ (ltb_no n 10 (omega (arith, h.0))) ∙ cond-false (ltb n 100) _ _ (ltb_no n 100 (omega (arith, h.0))) ∙ cond-true (ltb n 1000) _ _ (lt-ltb n 1000 (omega (arith, small.0, small.1.0, small.1.1.0))) ∙ (λ j. code (p j) ∷ (code (q j) ∷ (code (r j) ∷ []))),
      omega (arith, small.0, small.1.0, small.1.1.0),
    )
numeral_led (a ∷ (b ∷ (c ∷ (d ∷ [])))) h =
    let n : ℕ = (((0 * 10 + a) * 10 + b) * 10 + c) * 10 + d in
    let small = h.1 in
    let p : n / 1000 ≡ a = omega (arith, small.0, small.1.0, small.1.1.0, small.1.1.1.0) in
    let q : n / 100 % 10 ≡ b = omega (arith, small.0, small.1.0, small.1.1.0, small.1.1.1.0) in
    let r : n / 10 % 10 ≡ c = omega (arith, small.0, small.1.0, small.1.1.0, small.1.1.1.0) in
    let t : n % 10 ≡ d = omega (arith, small.0, small.1.0, small.1.1.0, small.1.1.1.0) in (
      cond-false (ltb n 10) _ _ (ltb_no n 10 (omega (arith, h.0))) ∙ cond-false (ltb n 100) _ _ (ltb_no n 100 (omega (arith, h.0))) ∙ cond-false (ltb n 1000) _ _ (ltb_no n 1000 (omega (arith, h.0))) ∙ (λ j. code (p j) ∷ (code (q j) ∷ (code (r j) ∷ (code (t j) ∷ [])))),
      omega (arith, small.0, small.1.0, small.1.1.0, small.1.1.1.0),
    )
numeral_led (a ∷ (b ∷ (c ∷ (d ∷ (e ∷ ds))))) h = absurd (omega (arith, h.2))

-- a number below 10,000 has such digits
spell : (n : ℕ) → n < 10000 → (ds : List ℕ) × Led ds × (value 0 ds ≡ n)
spell n h = ⊎_elim
    (λ one. (n ∷ [], one, omega arith))
    (λ more. ⊎_elim
    (λ two. (n / 10 ∷ (n % 10 ∷ []), (omega arith, (omega arith, (omega arith, tt)), omega arith), omega arith))
    (λ more2. ⊎_elim
    (λ three. (n / 100 ∷ (n / 10 % 10 ∷ (n % 10 ∷ [])), (omega arith, (omega arith, (omega arith, (omega arith, tt))), omega arith), omega arith))
    (λ more3. (n / 1000 ∷ (n / 100 % 10 ∷ (n / 10 % 10 ∷ (n % 10 ∷ []))), (omega arith, (omega arith, (omega arith, (omega arith, (omega arith, tt)))), omega arith), omega arith))
    (cases_lt n 1000))
    (cases_lt n 100))
    (cases_lt n 10)

led_small : (ds : List ℕ) → Led ds → Small ds × (0 < length ds) × (length ds ≤ 4)
led_small [] h = absurd h
led_small (a ∷ []) h = ((h, tt), omega arith, omega arith)
led_small (a ∷ (b ∷ ds)) h = (h.1, omega arith, omega (arith, h.2))

led_front : (ds ys : List ℕ) → Led ds → digits ys ≡ 0 → zero_leads (map code ds ++ ys) ≡ false
led_front [] ys h z = absurd h
led_front (a ∷ []) ys h z = leads_alone (code a ∷ ys) (omega (arith, digits_codes (a ∷ []) ys (h, tt)))
led_front (a ∷ (b ∷ ds)) ys h z = leads_none (map code (a ∷ (b ∷ ds)) ++ ys) a (to_worth a h.1.0) (λ e. omega (arith, h.0))

led_from : (ds ys : List ℕ) → Small ds → 0 < length ds → length ds ≤ 4 → zero_leads (map code ds ++ ys) ≡ false → Led ds
led_from [] ys h some few z = absurd (omega arith)
led_from (a ∷ []) ys h some few z = h.0
led_from (a ∷ (b ∷ ds)) ys h some few z = (
  ⊎_elim
      (λ nil. let e : a ≡ 0 = omega arith in
      let t : zero_leads (map code (a ∷ (b ∷ ds)) ++ ys) ≡ true = leads_zero (map code (a ∷ (b ∷ ds)) ++ ys) a (to_worth a h.0) e (omega (arith, digits_codes (a ∷ (b ∷ ds)) ys h)) in
      absurd (let c : ◌≡◌ {A = ℕ} 0 1 = cc in omega arith))
      (λ one. one) (cases_lt a 1),
  h,
  omega arith,
)

-- what is read stands there
forth : (s : List ℕ) (i : ℕ) (n : Number) → number_at s i ≡ Ok n → Stands s i n.value n.after
forth s i n e = go (eqb (digits (drop i s)) 0) (zero_leads (drop i s)) (ltb 4 (digits (drop i s))) refl refl refl
  where
    go : (a b c : Bool) → eqb (digits (drop i s)) 0 ≡ a → zero_leads (drop i s) ≡ b → ltb 4 (digits (drop i s)) ≡ c → Stands s i n.value n.after
    go true b c p q r = let f = is s i true b c p q r in absurd (let z : ◌≡◌ {A = ℕ} 0 1 = cc in omega arith)
    go false true c p q r = let f = is s i false true c p q r in absurd (let z : ◌≡◌ {A = ℕ} 0 1 = cc in omega arith)
    go false false true p q r = let f = is s i false false true p q r in absurd (let z : ◌≡◌ {A = ℕ} 0 1 = cc in omega arith)
    go false false false p q r =
        let f = is s i false false false p q r in
        let xs : List ℕ = drop i s in
        let k : ℕ = digits xs in
        let v : n.value ≡ worth 0 xs = cc in
        let w : n.after ≡ i + k = cc in
        let t = run k xs refl in
        let some : 0 < k = ⊎_elim (λ lt. absurd (let e0 : k ≡ 0 = omega arith in let c0 : true ≡ false = sym (eq-eqb k 0 e0) ∙ p in let z : ◌≡◌ {A = ℕ} 0 1 = cc in omega arith)) (λ le. le) (cases_lt k 1) in
        let few : k ≤ 4 = ltb-false 4 k r in
        let led : Led t.ds = led_from t.ds (drop k xs) t.small (omega (arith, t.long)) (omega (arith, t.long)) (ap zero_leads (sym t.is) ∙ q) in
        let val : worth 0 xs ≡ value 0 t.ds = ap (worth 0) t.is ∙ worth_codes t.ds (drop k xs) 0 t.small ∙ worth_end (drop k xs) (value 0 t.ds) t.done in
        let same : numeral n.value ≡ map code t.ds = ap numeral (v ∙ val) ∙ (numeral_led t.ds led).0 in
        let rest : drop k xs ≡ drop n.after s = drop-drop k i s ∙ ap (λ m. drop m s) (sym w) in
        record {
          small = subst (λ m. m < 10000) (sym (v ∙ val)) (numeral_led t.ds led).1;
          reach = w ∙ ap (λ m. i + m) (sym (ap length same ∙ length-map t.ds code ∙ t.long));
          text = t.is ∙ (λ j. sym same j ++ rest j);
          done = ap digits (sym rest) ∙ t.done;
        }

-- what stands there is read
back : (s : List ℕ) (i : ℕ) (n : Number) → Stands s i n.value n.after → number_at s i ≡ Ok n
back s i n t =
    let d = spell n.value t.small in
    let ds : List ℕ = d.0 in
    let ys : List ℕ = drop n.after s in
    let sm = led_small ds d.1 in
    let same : numeral n.value ≡ map code ds = ap numeral (sym d.2) ∙ (numeral_led ds d.1).0 in
    let xs : drop i s ≡ map code ds ++ ys = t.text ∙ ap (λ zs. zs ++ ys) same in
    let count : digits (drop i s) ≡ length ds = ap digits xs ∙ digits_codes ds ys sm.0 ∙ (let z = t.done in omega arith) in
    let val : worth 0 (drop i s) ≡ n.value = ap (worth 0) xs ∙ worth_codes ds ys 0 sm.0 ∙ worth_end ys (value 0 ds) t.done ∙ d.2 in
    let long : i + digits (drop i s) ≡ n.after = ap (λ m. i + m) (count ∙ sym (ap length same ∙ length-map ds code)) ∙ sym t.reach in
    number_good s i (omega (arith, count, sm.1)) (ap zero_leads xs ∙ led_front ds ys d.1 t.done) (omega (arith, count, sm.2)) ∙ (λ j. Ok (record { value = val j; after = long j }))

pub numerals : Numerals
numerals s i n = (forth s i n, back s i n)
