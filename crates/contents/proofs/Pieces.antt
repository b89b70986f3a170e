-- The pieces of a label one by one, and their names. Assumes nothing.
use Rattle.std.proofs.Common.{◌≡◌, ℕ, suc, ◌+◌, ◌*◌, ◌<◌, ◌≤◌, Bool, true, false, cond, not, ◌&&◌, T, eqb, leb, List, [], ◌∷◌, ◌++◌, length, get_or, take, drop, Some, None, codes, Option, sym, refl, ap, ◌∙◌, subst, arith, length-append, le-leb}
use borrow.Author.Tests.{lt-leb}
use lib.Pointwise.{pointwise}
use Rattle.std.proofs.lemmas.List.{append_assoc, drop_more, take-append-drop}
use Rattle.std.specs.List.{slice_split, onto_first}
use Rattle.std.proofs.lemmas.Bool.{and_parts, leb-true}
use Rattle.text.proofs.Letters.{word_short}
use Rattle.text.specs.Words.{word_limit, same, is_word, is_reserved, is_name}
use Rattle.text.specs.Names.{name_of, named}
use Rattle.text.specs.declared.names.Name.{Name}
use Rattle.contents.specs.Labels.{label_limit, on_first, pieces, before_all, with_name, all_named, label_names}

-- the library's comparison of bytes, and the parts that it cuts
same_is : (a b : List ℕ) → pointwise eqb a b ≡ same a b
same_is [] [] = refl
same_is [] (y ∷ ys) = refl
same_is (x ∷ xs) [] = refl
same_is (x ∷ xs) (y ∷ ys) = ap (λ t. eqb x y && t) (same_is xs ys)

pub not_i : (s t : List ℕ) → t ≡ codes "i" → false ≡ pointwise eqb s t → same s (codes "i") ≡ false
not_i s t e h = sym (same_is s (codes "i")) ∙ ap (pointwise eqb s) (sym e) ∙ sym h

first_is : (x : ℕ) (ps : List (List ℕ)) → onto_first x ps ≡ on_first x ps
first_is x [] = refl
first_is x (p ∷ ps) = refl

pieces_are : (b : ℕ) (xs : List ℕ) → slice_split (λ x. eqb x b) xs ≡ pieces b xs
pieces_are b [] = refl
pieces_are b (x ∷ xs) = (λ j. cond (eqb x b) ([] ∷ pieces_are b xs j) (onto_first x (pieces_are b xs j))) ∙ ap (λ ps. cond (eqb x b) ([] ∷ pieces b xs) ps) (first_is x (pieces b xs))

-- pieces, one of them, and the rest
cut_at : (all ys : List (List ℕ)) (k : ℕ) (p : List ℕ) → ys ≡ take k all → k < length all → p ≡ get_or all k p → all ≡ ys ++ p ∷ drop (k + 1) all
cut_at all ys k p e h q = sym (take-append-drop k all) ∙ (λ j. sym e j ++ drop_more all k p h j) ∙ ap (λ x. ys ++ x ∷ drop (k + 1) all) (sym q)

-- the names of some pieces before those of others
abbrev both : Option (List Name) → Option (List Name) → Option (List Name)
both None o = None
both (Some ns) o = before_all ns o

both_none : (o : Option (List Name)) → both o None ≡ None
both_none None = refl
both_none (Some ns) = refl

before_all_assoc : {X : Type 0} (xs ys : List X) (o : Option (List X)) → before_all xs (before_all ys o) ≡ before_all (xs ++ ys) o
before_all_assoc xs ys None = refl
before_all_assoc xs ys (Some zs) = ap Some (sym (append_assoc xs ys zs))

before_none : {X : Type 0} (o : Option (List X)) → before_all [] o ≡ o
before_none None = refl
before_none (Some ys) = refl

all_named_append : (ps qs : List (List ℕ)) → all_named (ps ++ qs) ≡ both (all_named ps) (all_named qs)
all_named_append [] qs = sym (before_none (all_named qs))
all_named_append (p ∷ ps) qs = ap (with_name (named p)) (all_named_append ps qs) ∙ go (named p) (all_named ps)
  where
    go : (n : Option Name) (o : Option (List Name)) → with_name n (both o (all_named qs)) ≡ both (with_name n o) (all_named qs)
    go None o = refl
    go (Some n) None = refl
    go (Some n) (Some ns) = before_all_assoc (n ∷ []) ns (all_named qs)

module _ (ps : List (List ℕ)) (p : List ℕ) where
  pub named_more : (ns : List Name) (n : Name) → all_named ps ≡ Some ns → Some n ≡ named p → all_named (ps ++ p ∷ []) ≡ Some (ns ++ n ∷ [])
  named_more ns n e h = all_named_append ps (p ∷ []) ∙ (λ j. both (e j) (with_name (sym h j) (Some [])))

  named_none : (rest : List (List ℕ)) → None ≡ named p → all_named (ps ++ p ∷ rest) ≡ None
  named_none rest h = all_named_append ps (p ∷ rest) ∙ ap (λ o. both (all_named ps) (with_name o (all_named rest))) (sym h) ∙ both_none (all_named ps)

pub named_length : (ps : List (List ℕ)) (ns : List Name) → all_named ps ≡ Some ns → length ns ≡ length ps
named_length [] ns e = let h : [] ≡ ns = cc in sym (ap length h)
named_length (p ∷ ps) ns e = go (named p) (all_named ps) (named_length ps) e
  where
    go : (n : Option Name) (o : Option (List Name)) → ((ms : List Name) → o ≡ Some ms → length ms ≡ length ps) → with_name n o ≡ Some ns → length ns ≡ suc (length ps)
    go None o q h = absurd (let z : ◌≡◌ {A = ℕ} 0 1 = cc in omega arith)
    go (Some n) None q h = absurd (let z : ◌≡◌ {A = ℕ} 0 1 = cc in omega arith)
    go (Some n) (Some ms) q h = let all : n ∷ ms ≡ ns = cc in omega (arith, ap length all, q ms refl)

-- more pieces than a label may have
named_long : (ps rest : List (List ℕ)) (p : List ℕ) (ns : List Name) → all_named ps ≡ Some ns → label_limit ≤ length ns → label_limit < length (ps ++ p ∷ rest)
named_long ps rest p ns e h = omega (arith, named_length ps ns e, length-append ps (p ∷ rest))

-- the bytes of pieces, each with the byte behind it
abbrev joined : List (List ℕ) → ℕ
joined [] = 0
joined (p ∷ ps) = suc (length p) + joined ps

pieces_joined : (b : ℕ) (xs : List ℕ) → joined (pieces b xs) ≡ suc (length xs)
pieces_joined b [] = omega arith
pieces_joined b (x ∷ xs) = go (eqb x b) (pieces b xs) (pieces_joined b xs)
  where
    go : (t : Bool) (ps : List (List ℕ)) → joined ps ≡ suc (length xs) → joined (cond t ([] ∷ ps) (on_first x ps)) ≡ suc (suc (length xs))
    go true ps e = omega (arith, e)
    go false [] e = absurd (omega (arith, e))
    go false (p ∷ ps) e = omega (arith, e)

named_short : (p : List ℕ) (n : Name) → named p ≡ Some n → length p ≤ word_limit
named_short p n e = go (is_name p) refl e
  where
    go : (t : Bool) → is_name p ≡ t → cond t (Some (name_of p)) None ≡ Some n → length p ≤ word_limit
    go true h f = word_short p (subst T (sym (and_parts (is_word p) (not (is_reserved p)) h).0) tt)
    go false h f = absurd (let z : ◌≡◌ {A = ℕ} 0 1 = cc in omega arith)

named_joined : (ps : List (List ℕ)) (ns : List Name) → all_named ps ≡ Some ns → joined ps ≤ 25 * length ps
named_joined [] ns e = omega arith
named_joined (p ∷ ps) ns e = go (named p) (all_named ps) refl (named_joined ps) e
  where
    go : (n : Option Name) (o : Option (List Name)) → named p ≡ n → ((ms : List Name) → o ≡ Some ms → joined ps ≤ 25 * length ps) → with_name n o ≡ Some ns → joined (p ∷ ps) ≤ 25 * length (p ∷ ps)
    go None o h q f = absurd (let z : ◌≡◌ {A = ℕ} 0 1 = cc in omega arith)
    go (Some n) None h q f = absurd (let z : ◌≡◌ {A = ℕ} 0 1 = cc in omega arith)
    go (Some n) (Some ms) h q f = omega (arith, q ms refl, named_short p n h)

-- what label_names says in each case
module _ (l : List ℕ) where
  listing : same l (codes "i") ≡ false → label_names l ≡ cond (leb (length (pieces 59 l)) label_limit) (all_named (pieces 59 l)) None
  listing e = ap (λ b. cond b (Some []) (cond (leb (length (pieces 59 l)) label_limit) (all_named (pieces 59 l)) None)) e

  label_bad : same l (codes "i") ≡ false → all_named (pieces 59 l) ≡ None → label_names l ≡ None
  label_bad e h = listing e ∙ go (leb (length (pieces 59 l)) label_limit)
    where
      go : (b : Bool) → cond b (all_named (pieces 59 l)) None ≡ None
      go true = h
      go false = refl

  label_long : same l (codes "i") ≡ false → label_limit < length (pieces 59 l) → label_names l ≡ None
  label_long e h = listing e ∙ ap (λ b. cond b (all_named (pieces 59 l)) None) (lt-leb (length (pieces 59 l)) label_limit h)

  pub bytes_too_many : same l (codes "i") ≡ false → 199 < length l → label_names l ≡ None
  bytes_too_many e h = listing e ∙ go (leb (length (pieces 59 l)) label_limit) (all_named (pieces 59 l)) refl refl
    where
      go : (t : Bool) (o : Option (List Name)) → leb (length (pieces 59 l)) label_limit ≡ t → all_named (pieces 59 l) ≡ o → cond t o None ≡ None
      go false o f g = refl
      go true None f g = refl
      go true (Some ns) f g = absurd (omega (arith, h, leb-true (length (pieces 59 l)) label_limit f, named_joined (pieces 59 l) ns g, pieces_joined 59 l))

  label_good : same l (codes "i") ≡ false → length (pieces 59 l) ≤ label_limit → label_names l ≡ all_named (pieces 59 l)
  label_good e h = listing e ∙ ap (λ b. cond b (all_named (pieces 59 l)) None) (le-leb (length (pieces 59 l)) label_limit h)

-- a label whose pieces were read one by one, as far as each has a name
module _ (l : List ℕ) (no : same l (codes "i") ≡ false) (ys : List (List ℕ)) (ns : List Name) (e : all_named ys ≡ Some ns) where
  abbrev cut : List (List ℕ)
  cut = slice_split (λ b. eqb b 59) l

  pub all_read : ys ≡ cut → length ns ≤ label_limit → label_names l ≡ Some ns
  all_read h few =
      let all : ys ≡ pieces 59 l = h ∙ pieces_are 59 l in
      label_good l no (omega (arith, few, named_length ys ns e, ap length all)) ∙ ap all_named (sym all) ∙ e

  module _ (p : List ℕ) (so_far : ys ≡ take (length ys) cut) (more : length ys < length cut) (next : p ≡ get_or cut (length ys) p) where
    split : pieces 59 l ≡ ys ++ p ∷ drop (length ys + 1) cut
    split = sym (pieces_are 59 l) ∙ cut_at cut ys (length ys) p so_far more next

    pub piece_unlawful : None ≡ named p → label_names l ≡ None
    piece_unlawful h = label_bad l no (ap all_named split ∙ named_none ys p (drop (length ys + 1) cut) h)

    pub piece_too_many : label_limit ≤ length ns → label_names l ≡ None
    piece_too_many h = label_long l no (omega (arith, named_long ys (drop (length ys + 1) cut) p ns e h, ap length split))
