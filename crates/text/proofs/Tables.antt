-- A table of names: what it holds, and how one more name joins it.
use Rattle.std.proofs.Common.{◌≡◌, ℕ, ◌+◌, ◌<◌, ◌≤◌, T, true, false, leb, nat_lt, List, [], ◌∷◌, ◌++◌, Result, Ok, Err, is_ok, OnOk, OnErr, IfSome, subst, length, get_or, drop, is_some, Some, None, Option, sym, refl, ap, ◌∙◌, arith}
use Rattle.std.proofs.lemmas.List.{length_push, at_drop_more, at_drop_all}
use Rattle.std.proofs.lemmas.Bool.{le-leb, lt-leb, leb-false, ltb-true, false≢true}
use Rattle.text.specs.declared.names.Name.{Name}
use Rattle.text.specs.declared.numbering.Names.{Names}
use Rattle.text.specs.Held.{held}
use Rattle.text.specs.contracts.names.NameBlank.TheImpl.{ghosts}
use Rattle.lists.specs.FilledLaw.{held_count}
use Rattle.lists.specs.Items.{items}
use Rattle.lists.specs.declared.FixedList.{FixedList}
use Rattle.lists.specs.declared.ListFull.{ListFull}
use Rattle.text.specs.Numbering.{names_limit, number_of, all_different, join_one, join_all}
use Rattle.text.specs.Names.{same_name}
use Rattle.text.proofs.Picks.{within}
use Rattle.text.proofs.Joins.{join_new, join_longer, push_different}

-- as many names are held as are counted
pub held_length : (t : Names) → length (held t) ≡ t.list.count
held_length t = held_count _ _ _ _ t.list.filled

pub not_some : {X : Type 0} (o : Option X) → is_some o ≡ false → o ≡ None
not_some (Some x) e = absurd (false≢true (sym e))
not_some None e = refl

-- a name that is not there joins if there is room
module _ (xs : List Name) (n : Name) (new : number_of xs n ≡ None) where
  longer : length (join_one xs n) ≡ length xs + 1
  longer = ap length (join_new xs n new) ∙ length_push xs n

  pub join_room : length xs < 64 → leb (length (join_one xs n)) names_limit ≡ true
  join_room h = le-leb (length (join_one xs n)) 64 (omega (arith, longer))

  pub join_full : length xs ≡ 64 → leb (length (join_one xs n)) names_limit ≡ false
  join_full h = lt-leb (length (join_one xs n)) 64 (omega (arith, longer))

-- names that join one after the other, at the name at i
module _ (xs names : List Name) (i : ℕ) (d : Name) (h : i < length names) where
  pub join_step : join_all xs (drop i names) ≡ join_all (join_one xs (get_or names i d)) (drop (i + 1) names)
  join_step = at_drop_more (join_all xs) names i d h

  pub join_stuck : leb (length (join_one xs (get_or names i d))) names_limit ≡ false → leb (length (join_all xs (drop i names))) names_limit ≡ false
  join_stuck e =
      let one = join_one xs (get_or names i d) in
      lt-leb (length (join_all xs (drop i names))) 64 (omega (arith, leb-false (length one) 64 e, join_longer one (drop (i + 1) names), ap length join_step))

pub join_end : (xs names : List Name) (i : ℕ) → length names ≤ i → join_all xs (drop i names) ≡ xs
join_end xs names i h = at_drop_all (join_all xs) names i h

-- one more name, where there is room for it
pub push_whole : (t : Names) (n : Name) (r : Result (Unit {0}) ListFull) (list : FixedList Name 64 ghosts) → number_of (held t) n ≡ None → is_ok r ≡ nat_lt (length (held t)) names_limit →
    OnOk r (items list ≡ held t ++ (n ∷ [])) → OnErr r (list ≡ t.list) → (length (items list) ≤ names_limit) × T (all_different (items list))
push_whole t n (Ok u) list new fits e f = (omega (arith, ap length e, length_push (held t) n, ltb-true (length (held t)) 64 (sym fits)), subst (λ (xs : List Name). T (all_different xs)) (sym e) (push_different (held t) n t.apart new))
push_whole t n (Err x) list new fits e f = (subst (λ (l : FixedList Name 64 ghosts). length (items l) ≤ names_limit) (sym f) t.within, subst (λ (l : FixedList Name 64 ghosts). T (all_different (items l))) (sym f) t.apart)

-- a number is below the limit
pub number_below : (t : Names) (n : Name) (o : Option ℕ) → o ≡ number_of (held t) n → IfSome o (λ i. i < names_limit)
number_below t n None e = tt
number_below t n (Some i) e = omega (arith, within (λ m. same_name m n) (held t) i (sym e), t.within)
