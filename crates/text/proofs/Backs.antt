-- A search from the back of a slice.
use Rattle.std.proofs.Common.{◌≡◌, ℕ, ◌+◌, Bool, true, false, List, [], ◌∷◌, length, Some, None, Option, Bor, sym, refl, ap, ◌∙◌, subst, arith}
use denote.Param.Members.{Mut}
use Rattle.std.specs.Fn.{Called}
use Rattle.std.specs.List.{FoldsTo}
use Rattle.std.specs.Iterator.{Yields, YieldsThen}
use Rattle.std.specs.Option.{MatchOption, IsSomeAnd}
use Rattle.std.specs.Slice.Iter.{iter_rest, iter_steps_back}
use Rattle.std.specs.declared.slice.Iter.{Iter}
use Rattle.std.proofs.lemmas.List.{length_push, nil_from_length}
use Rattle.text.specs.Lookup.{latest}
use Rattle.text.proofs.Picks.{push_passed, push_failed}

-- the search is made by calls that all ask p of an item
module _ {A F : Type 0} (g : Mut F (Bor A × Unit {0}) Bool) (f : F) (p : A → Bool)
    (asks : (x : Bor A) (b : Bool) (q : F) → Called g f (x, tt) b q → (q ≡ f) × (b ≡ p x.now)) where
  asked : (i : F) → i ≡ f → (x : Bor A) (b : Bool) (q : F) → Called g i (x, tt) b q → (q ≡ f) × (b ≡ p x.now)
  asked i e x b q k = asks x b q (subst (λ h. Called g h (x, tt) b q) e k)

  -- one item further, which did not pass
  passed_over : (s m : Iter A) (x : Bor A) → iter_steps_back s (Some x) m → false ≡ p x.now → latest p (iter_rest s) ≡ latest p (iter_rest m)
  passed_over s m x h e = ap (latest p) h ∙ push_failed p (iter_rest m) x.now (sym e)

  pub none_from_back : (xs : List (Bor A)) (s t u : Iter A) (i j : F) → i ≡ f → Yields iter_steps_back s xs t → iter_steps_back t None u →
      FoldsTo (λ h x q. Called g h (x, tt) false q) i xs j → latest p (iter_rest s) ≡ None
  none_from_back [] s t u i j e y h k = ap (λ v. latest p (iter_rest v)) y ∙ ap (latest p) (nil_from_length (iter_rest t) h.0)
  none_from_back (x ∷ xs) s t u i j e y h k =
      let a = asked i e x false k.0 k.1 in
      passed_over s y.0 x y.1 a.1 ∙ none_from_back xs y.0 t u k.0 j a.0 y.2 h k.2

  pub some_from_back : (xs : List (Bor A)) (z : Bor A) (s t u : Iter A) (i j q : F) (n : ℕ) → i ≡ f → Yields iter_steps_back s xs t → iter_steps_back t (Some z) u →
      FoldsTo (λ h x q. Called g h (x, tt) false q) i xs j → Called g j (z, tt) true q → n + 1 + length xs ≡ length (iter_rest s) → latest p (iter_rest s) ≡ Some n
  some_from_back [] z s t u i j q n e y h k l w =
      let a = asked j (sym k ∙ e) z true q l in
      ap (λ v. latest p (iter_rest v)) y
      ∙ ap (latest p) h
      ∙ push_passed p (iter_rest u) z.now (sym a.1)
      ∙ ap Some (omega (arith, w, ap (λ v. length (iter_rest v)) y, ap length h, length_push (iter_rest u) z.now))
  some_from_back (x ∷ xs) z s t u i j q n e y h k l w =
      let a = asked i e x false k.0 k.1 in
      passed_over s y.0 x y.1 a.1
      ∙ some_from_back xs z y.0 t u k.0 j q n a.0 y.2 h k.2 l (omega (arith, w, ap length y.1, length_push (iter_rest y.0) x.now))

  -- what the search answers is the last place at which p passes
  pub latest_from_back : (s u : Iter A) (r : Option ℕ) →
      (xs : List (Bor A)) × (o : Option (Bor A)) × (j : F) × YieldsThen iter_steps_back s xs o u × FoldsTo (λ h x q. Called g h (x, tt) false q) f xs j
      × MatchOption o (r ≡ None) (λ x. IsSomeAnd r (λ i. i + 1 + length xs ≡ length (iter_rest s)) × ((h : F) × Called g j (x, tt) true h)) →
      r ≡ latest p (iter_rest s)
  latest_from_back s u r ran = by ran.1 r ran.3.2 ran.5
    where
      by : (o : Option (Bor A)) (r : Option ℕ) → iter_steps_back ran.3.0 o u →
          MatchOption o (r ≡ None) (λ x. IsSomeAnd r (λ i. i + 1 + length ran.0 ≡ length (iter_rest s)) × ((h : F) × Called g ran.2 (x, tt) true h)) →
          r ≡ latest p (iter_rest s)
      by None r h e = e ∙ sym (none_from_back ran.0 s ran.3.0 u f ran.2 refl ran.3.1 h ran.4)
      by (Some x) (Some n) h e = sym (some_from_back ran.0 x s ran.3.0 u f ran.2 e.1.0 n refl ran.3.1 h ran.4 e.1.1 e.0)
      by (Some x) None h e = absurd e.0
