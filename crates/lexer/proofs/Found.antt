-- The token that comes next, by what was found there. Assumes nothing.
use Rattle.std.proofs.Common.{◌≡◌, ℕ, suc, ◌+◌, ◌-◌, ◌<◌, ◌≤◌, Bool, true, false, cond, List, [], ◌∷◌, length, get_or, take, drop, Some, None, Option, sym, refl, ap, ◌∙◌, arith, length-drop}
use Rattle.std.specs.List.{take_while, prefix_len}
use Rattle.std.proofs.lemmas.List.Folds.{length-prefix_len}
use Rattle.std.proofs.lemmas.List.{drop_all, drop_more}
use Rattle.std.proofs.lemmas.Bool.{lt-ltb, le-ltb}
use Rattle.text.specs.Words.{word_limit, is_start, goes_on, word_len}
use Rattle.lexer.specs.declared.Mark.{Mark}
use Rattle.lexer.specs.Tokens.{is_blank, mark_of, blanks, end, mark, word, Next, got, refused, word_at, by_mark, front_token, token_at}

-- a word ends within its text
pub word_short : (xs : List ℕ) → word_len xs ≤ length xs
word_short [] = omega arith
word_short (x ∷ xs) = go (goes_on (x ∷ xs)) (word_short xs)
  where
    go : (b : Bool) → word_len xs ≤ length xs → cond b (suc (word_len xs)) 0 ≤ suc (length xs)
    go true h = omega arith
    go false h = omega arith

module _ (s : List ℕ) (i j : ℕ) (at : j ≡ i + blanks (drop i s)) where
  from : (o : Next) → o ≡ front_token (drop j s) j → o ≡ token_at s i
  from o e = e ∙ ap (λ k. front_token (drop k s) k) at

  pub found_end : length s ≤ j → got end j j ≡ token_at s i
  found_end h = from _ (sym (ap (λ l. front_token l j) (drop_all j s h)))

  module _ (h : j < length s) where
    inside : (m : Option Mark) → mark_of (get_or s j 0) ≡ m → front_token (drop j s) j ≡ by_mark m (get_or s j 0) (drop (j + 1) s) j
    inside m e = ap (λ l. front_token l j) (drop_more s j 0 h) ∙ ap (λ o. by_mark o (get_or s j 0) (drop (j + 1) s) j) e

    pub found_mark : (m : Mark) → Some m ≡ mark_of (get_or s j 0) → got (mark m) j (j + 1) ≡ token_at s i
    found_mark m e = from _ (sym (inside (Some m) (sym e)))

    module _ (e : None ≡ mark_of (get_or s j 0)) where
      starts : (b : Bool) → is_start (get_or s j 0) ≡ b → front_token (drop j s) j ≡ cond b (word_at (word_len (drop (j + 1) s)) (get_or s j 0 ∷ drop (j + 1) s) j) (refused j)
      starts b f = inside None (sym e) ∙ ap (λ q. cond q (word_at (word_len (drop (j + 1) s)) (get_or s j 0 ∷ drop (j + 1) s) j) (refused j)) f

      pub found_none : false ≡ is_start (get_or s j 0) → refused j ≡ token_at s i
      found_none f = from _ (sym (starts false (sym f)))

      module _ (f : true ≡ is_start (get_or s j 0)) (n : ℕ) (long : n ≡ word_len (drop (j + 1) s)) where
        words : front_token (drop j s) j ≡ word_at n (drop j s) j
        words = starts true (sym f) ∙ (λ q. word_at (sym long q) (sym (drop_more s j 0 h) q) j)

        pub found_long : word_limit ≤ n → refused j ≡ token_at s i
        found_long more = from _ (sym (words ∙ ap (λ b. cond b (got (word (take (suc n) (drop j s))) j (j + suc n)) (refused j)) (le-ltb n word_limit more)))

        pub found_word : n < word_limit → (after : ℕ) → after ≡ (j + 1) + n → got (word (take (after - j) (drop j s))) j after ≡ token_at s i
        found_word few after e2 =
            let size : after - j ≡ suc n = omega arith in
            let back : after ≡ j + suc n = omega arith in
            from _ ((λ q. got (word (take (size q) (drop j s))) j (back q)) ∙ sym (words ∙ ap (λ b. cond b (got (word (take (suc n) (drop j s))) j (j + suc n)) (refused j)) (lt-ltb n word_limit few)))

pub word_inside : (s : List ℕ) (j n : ℕ) → j < length s → n ≡ word_len (drop (j + 1) s) → (j + 1) + n ≤ length s
word_inside s j n h e = omega (arith, word_short (drop (j + 1) s), length-drop (j + 1) s)

-- the blanks at the front are counted one by one
pub prefix_blanks : (xs : List ℕ) → prefix_len is_blank xs ≡ blanks xs
prefix_blanks [] = refl
prefix_blanks (x ∷ xs) = by (is_blank x) (prefix_blanks xs)
  where
    by : (b : Bool) → prefix_len is_blank xs ≡ blanks xs → cond b (1 + prefix_len is_blank xs) 0 ≡ cond b (suc (blanks xs)) 0
    by true e = omega (arith, e)
    by false e = refl

-- what the library counts
pub blanks_is : (xs : List ℕ) → length (take_while is_blank xs) ≡ blanks xs
blanks_is xs = length-prefix_len is_blank xs ∙ prefix_blanks xs
