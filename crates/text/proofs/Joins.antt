-- Names that join a list of names.
use Rattle.std.proofs.Common.{◌≡◌, ℕ, zero, suc, ◌≤◌, Bool, true, false, cond, not, T, List, [], ◌∷◌, ◌++◌, length, is_some, Some, None, Option, sym, refl, ap, ◌∙◌, subst, arith, length-append}
use Rattle.std.specs.List.{slice_get}
use Rattle.std.proofs.lemmas.List.{append-nil, append_assoc}
use Rattle.std.proofs.lemmas.Bool.{and_parts, and_from, both_ways, false≢true}
use Rattle.text.specs.declared.names.Name.{Name}
use Rattle.text.specs.Lookup.{or_front}
use Rattle.text.specs.Names.{same_name}
use Rattle.text.specs.Numbering.{number_of, all_different, join_one, join_all, JoiningIsLawful, NumbersArePlaces}
use Rattle.text.proofs.Letters.{T_true, true_T}
use Rattle.text.proofs.Packs.{tells_names}
use Rattle.text.proofs.Picks.{none_some, none_parts, found, within, push_passed, push_failed}

-- names are one, by the test
one_name : (m n : Name) → same_name m n ≡ true → m ≡ n
one_name m n = (tells_names m n).0

itself : (n : Name) → same_name n n ≡ true
itself n = (tells_names n n).1 refl

other_way : (m n : Name) → same_name m n ≡ false → same_name n m ≡ false
other_way m n e = by (same_name n m) refl
  where
    by : (b : Bool) → same_name n m ≡ b → same_name n m ≡ false
    by true f = absurd (both_ways (same_name m n) e (ap (same_name m) (one_name n m f) ∙ itself m))
    by false f = f

-- a name that joins is there already or comes at the end
module _ (xs : List Name) (n : Name) where
  pub join_old : (i : ℕ) → number_of xs n ≡ Some i → join_one xs n ≡ xs
  join_old i e = ap (λ o. cond (is_some o) xs (xs ++ (n ∷ []))) e

  pub join_new : number_of xs n ≡ None → join_one xs n ≡ xs ++ (n ∷ [])
  join_new e = ap (λ o. cond (is_some o) xs (xs ++ (n ∷ []))) e

no_number : (xs : List Name) (n : Name) → not (is_some (number_of xs n)) ≡ true → number_of xs n ≡ None
no_number xs n e = by (number_of xs n) refl
  where
    by : (o : Option ℕ) → number_of xs n ≡ o → number_of xs n ≡ None
    by (Some i) f = absurd (false≢true (sym (ap (λ o. not (is_some o)) f) ∙ e))
    by None f = f

-- one more name, which none of the others is
different_push : (xs : List Name) (n : Name) → all_different xs ≡ true → number_of xs n ≡ None → all_different (xs ++ (n ∷ [])) ≡ true
different_push [] n d e = refl
different_push (x ∷ xs) n d e =
    let apart = and_parts (not (is_some (number_of xs x))) (all_different xs) d in
    let none = none_parts (same_name x n) (number_of xs n) e in
    let alone : number_of (xs ++ (n ∷ [])) x ≡ None = push_failed (λ m. same_name m x) xs n (other_way x n none.0) ∙ no_number xs x apart.0 in
    and_from _ _ (ap (λ o. not (is_some o)) alone) (different_push xs n apart.1 none.1)

pub push_different : (xs : List Name) (n : Name) → T (all_different xs) → number_of xs n ≡ None → T (all_different (xs ++ (n ∷ [])))
push_different xs n d e = true_T _ (different_push xs n (T_true (all_different xs) d) e)

-- one name joins
module _ (xs : List Name) (n : Name) where
  one_extends : (more : List Name) × (join_one xs n ≡ xs ++ more)
  one_extends = by (number_of xs n) refl
    where
      by : (o : Option ℕ) → number_of xs n ≡ o → (more : List Name) × (join_one xs n ≡ xs ++ more)
      by (Some i) e = ([], join_old xs n i e ∙ sym (append-nil xs))
      by None e = (n ∷ [], join_new xs n e)

  one_keeps : (m : Name) (i : ℕ) → number_of xs m ≡ Some i → number_of (join_one xs n) m ≡ Some i
  one_keeps m i h = by (number_of xs n) refl (same_name n m) refl
    where
      by : (o : Option ℕ) → number_of xs n ≡ o → (b : Bool) → same_name n m ≡ b → number_of (join_one xs n) m ≡ Some i
      by (Some j) e b f = ap (λ ys. number_of ys m) (join_old xs n j e) ∙ h
      by None e true f = none_some i (sym e ∙ ap (number_of xs) (one_name n m f) ∙ h)
      by None e false f = ap (λ ys. number_of ys m) (join_new xs n e) ∙ push_failed (λ k. same_name k m) xs n f ∙ h

  one_gives : (i : ℕ) × (number_of (join_one xs n) n ≡ Some i)
  one_gives = by (number_of xs n) refl
    where
      by : (o : Option ℕ) → number_of xs n ≡ o → (i : ℕ) × (number_of (join_one xs n) n ≡ Some i)
      by (Some i) e = (i, ap (λ ys. number_of ys n) (join_old xs n i e) ∙ e)
      by None e = (length xs, ap (λ ys. number_of ys n) (join_new xs n e) ∙ push_passed (λ k. same_name k n) xs n (itself n))

  pub one_apart : T (all_different xs) → T (all_different (join_one xs n))
  one_apart d = by (number_of xs n) refl
    where
      by : (o : Option ℕ) → number_of xs n ≡ o → T (all_different (join_one xs n))
      by (Some i) e = subst (λ ys. T (all_different ys)) (sym (join_old xs n i e)) d
      by None e = subst (λ ys. T (all_different ys)) (sym (join_new xs n e)) (push_different xs n d e)

extends : (xs ns : List Name) → (more : List Name) × (join_all xs ns ≡ xs ++ more)
extends xs [] = ([], sym (append-nil xs))
extends xs (n ∷ ns) =
    let a = one_extends xs n in
    let b = extends (join_one xs n) ns in
    (a.0 ++ b.0, b.1 ∙ ap (λ ys. ys ++ b.0) a.1 ∙ append_assoc xs a.0 b.0)

-- joining loses no name
pub join_longer : (xs ns : List Name) → length xs ≤ length (join_all xs ns)
join_longer xs ns = let a = extends xs ns in omega (arith, ap length a.1, length-append xs a.0)

keeps : (xs ns : List Name) (m : Name) (i : ℕ) → number_of xs m ≡ Some i → number_of (join_all xs ns) m ≡ Some i
keeps xs [] m i e = e
keeps xs (n ∷ ns) m i e = keeps (join_one xs n) ns m i (one_keeps xs n m i e)

apart : (xs ns : List Name) → T (all_different xs) → T (all_different (join_all xs ns))
apart xs [] d = d
apart xs (n ∷ ns) d = apart (join_one xs n) ns (one_apart xs n d)

numbered : (xs ns : List Name) (k : ℕ) (n : Name) → slice_get ns k ≡ Some n → (i : ℕ) × (number_of (join_all xs ns) n ≡ Some i)
numbered xs [] k n e = none_some n e
numbered xs (m ∷ ns) zero n e =
    let same : m ≡ n = cc in
    let a = one_gives xs m in
    (a.0, keeps (join_one xs m) ns n a.0 (ap (number_of (join_one xs m)) (sym same) ∙ a.1))
numbered xs (m ∷ ns) (suc k) n e = numbered (join_one xs m) ns k n e

pub joining : JoiningIsLawful
joining old new = record {
  extends = extends old new;
  keeps = keeps old new;
  gives = λ k n e. let a = numbered old new k n e in (a.0, (a.1, within (λ m. same_name m n) (join_all old new) a.0 a.1));
  apart = apart old new;
}

place_number : (names : List Name) → all_different names ≡ true → (i : ℕ) (n : Name) → slice_get names i ≡ Some n → number_of names n ≡ Some i
place_number [] d i n e = none_some n e
place_number (m ∷ ns) d zero n e =
    let same : m ≡ n = cc in
    let alone = no_number ns m (and_parts (not (is_some (number_of ns m))) (all_different ns) d).0 in
    ap (λ k. or_front (same_name m k) (number_of ns k)) (sym same) ∙ (λ j. or_front (itself m j) (alone j))
place_number (m ∷ ns) d (suc i) n e = ap (or_front (same_name m n)) (place_number ns (and_parts (not (is_some (number_of ns m))) (all_different ns) d).1 i n e)

pub places : NumbersArePlaces
places names d i n = (place_number names (T_true (all_different names) d) i n, back)
  where
    back : number_of names n ≡ Some i → slice_get names i ≡ Some n
    back e = let h = (found (λ m. same_name m n) names i e).here in h.1.0 ∙ ap Some (one_name h.0 n h.1.1)
