-- The standard equations. Assumes nothing.
use Rattle.std.proofs.Common.{◌≡◌, ℕ, zero, suc, ◌<◌, Bool, true, false, not, ◌&&◌, ◌||◌, T, eqb, ◌⊎◌, ◌↔◌, sym, refl, ap, ◌∙◌, subst, inl, inr, ⊎_elim, arith, eq-eqb, true-eqb}
use Rattle.std.proofs.lemmas.Bool.{cases_lt}
use Rattle.systems.specs.Meaning.{Meaning, move_count, events_at, target_at}
use Rattle.logic.specs.Guards.{Guard}
use Rattle.logic.specs.declared.nodes.Kind.TheVariants.{Final, BoxAll, AllNext, Eventually, Always, ExistsUntil, AllUntil, ExistsUntilBy, AllUntilBy}
use Rattle.logic.specs.Unfolding.{unfolds, HasOrTau, iterate, Least, Greatest}
use Rattle.logic.specs.Derived.{parts, without, diamond, box, all_next, any_events, all_states, or_tau, both, other, StandardOperators, rounds, Duality}

-- tests as facts
no_T : (b : Bool) → T (not b) → T b → ⊥
no_T true h t = h
no_T false h t = t

to_not : (b : Bool) → (T b → ⊥) → T (not b)
to_not true h = h tt
to_not false h = tt

by_T : (b : Bool) → (T (not b) → ⊥) → T b
by_T true h = tt
by_T false h = absurd (h tt)

decide : (b : Bool) → T b ⊎ T (not b)
decide true = inl tt
decide false = inr tt

and_T : (a b : Bool) → T a → T b → T (a && b)
and_T true b s t = t
and_T false b s t = absurd s

T_left : (a b : Bool) → T (a && b) → T a
T_left true b t = tt
T_left false b t = t

T_right : (a b : Bool) → T (a && b) → T b
T_right true b t = t
T_right false b t = absurd t

or_left : (a b : Bool) → T a → T (a || b)
or_left true b t = tt
or_left false b t = absurd t

or_right : (a b : Bool) → T b → T (a || b)
or_right true b t = tt
or_right false b t = t

or_cases : (a b : Bool) → T (a || b) → T a ⊎ T b
or_cases true b t = inl tt
or_cases false b t = inr t

-- two operators that agree whenever their sets do have one least set
same_least : (F G : (ℕ → Type 0) → ℕ → Type 0) → ((X Y : ℕ → Type 0) → ((q : ℕ) → X q → Y q) → (q : ℕ) → F X q → G Y q) → (n q : ℕ) → iterate n F (λ _. ⊥) q → iterate n G (λ _. ⊥) q
same_least F G step zero q h = h
same_least F G step (suc n) q h = step (iterate n F (λ _. ⊥)) (iterate n G (λ _. ⊥)) (same_least F G step n) q h

least_both : (F G : (ℕ → Type 0) → ℕ → Type 0) → ((X Y : ℕ → Type 0) → ((q : ℕ) → X q → Y q) → (q : ℕ) → F X q → G Y q) → ((X Y : ℕ → Type 0) → ((q : ℕ) → X q → Y q) → (q : ℕ) → G X q → F Y q) → (q : ℕ) → Least F q ↔ Least G q
least_both F G there back q = (λ h. (h.0, same_least F G there h.0 q h.1), λ h. (h.0, same_least G F back h.0 q h.1))

module _ (S : Meaning) (accepts : Guard → ℕ → Bool) (f g : ℕ → Bool) (x y : Guard) where
  abbrev ev : ℕ → ℕ → ℕ
  ev q i = events_at S.transitions q i

  abbrev go_to : ℕ → ℕ → ℕ
  go_to q i = target_at S.transitions q i

  tau_in : (q i : ℕ) → HasOrTau S accepts x q i → T (or_tau (accepts x) (ev q i))
  tau_in q i (inl h) = or_left (accepts x (ev q i)) (eqb (ev q i) 0) h
  tau_in q i (inr e) = or_right (accepts x (ev q i)) (eqb (ev q i) 0) (subst T (sym (eq-eqb (ev q i) 0 e)) tt)

  tau_out : (q i : ℕ) → T (or_tau (accepts x) (ev q i)) → HasOrTau S accepts x q i
  tau_out q i h = ⊎_elim (λ a. inl a) (λ b. inr (true-eqb (ev q i) 0 (sym (T_is (eqb (ev q i) 0) b)))) (or_cases (accepts x (ev q i)) (eqb (ev q i) 0) h)
    where
      T_is : (b : Bool) → T b → b ≡ true
      T_is true t = refl
      T_is false t = absurd t

  some : (q : ℕ) → (move_count S.transitions q ≡ 0 → ⊥) → 0 < move_count S.transitions q
  some q h = ⊎_elim (λ lt. absurd (h (omega arith))) (λ le. le) (cases_lt (move_count S.transitions q) 1)

  final_is : (q : ℕ) → unfolds S accepts Final (parts f g) (λ _. ⊥) q ↔ (diamond S any_events all_states q → ⊥)
  final_is q = (λ z d. omega (arith, d.1), λ h. ⊎_elim (λ lt. omega arith) (λ le. absurd (h (0, le, (tt, tt)))) (cases_lt (move_count S.transitions q) 1))

  boxes_is : (q : ℕ) → unfolds S accepts (BoxAll x 0) (parts f g) (λ _. ⊥) q ↔ (diamond S (accepts x) (λ r. T (without f r)) q → ⊥)
  boxes_is q = (λ h d. no_T (f (go_to q d.0)) d.2.1 (h d.0 d.1 d.2.0), λ h i lt a. by_T (f (go_to q i)) (λ n. h (i, lt, (a, n))))

  nexts_is : (q : ℕ) → unfolds S accepts (AllNext x 0) (parts f g) (λ _. ⊥) q ↔
      (diamond S (accepts x) all_states q × (diamond S (accepts x) (λ r. T (without f r)) q → ⊥) × (diamond S (other (accepts x)) all_states q → ⊥))
  nexts_is q = (
    λ h. ((0, h.0, ((h.1 0 h.0).0, tt)), λ d. no_T (f (go_to q d.0)) d.2.1 (h.1 d.0 d.1).1, λ d. no_T (accepts x (ev q d.0)) d.2.0 (h.1 d.0 d.1).0),
    λ h. (omega (arith, h.0.1), λ i lt. let a : T (accepts x (ev q i)) = by_T (accepts x (ev q i)) (λ n. h.2 (i, lt, (n, tt))) in (a, by_T (f (go_to q i)) (λ n. h.1 (i, lt, (a, n))))),
  )

  eventually_is : (q : ℕ) → Least (unfolds S accepts (Eventually 0) (parts f g)) q ↔ Least (λ Y r. T (f r) ⊎ diamond S any_events Y r) q
  eventually_is q = least_both _ _
      (λ X Y h r. ⊎_elim (λ a. inl a) (λ m. inr (m.0, m.1, (tt, h (go_to r m.0) m.2))))
      (λ X Y h r. ⊎_elim (λ a. inl a) (λ m. inr (m.0, m.1, h (go_to r m.0) m.2.1))) q

  exists_until_is : (q : ℕ) → Least (unfolds S accepts (ExistsUntil 0 x 1) (parts f g)) q ↔ Least (λ Y r. T (g r) ⊎ (T (f r) × diamond S (or_tau (accepts x)) Y r)) q
  exists_until_is q = least_both _ _
      (λ X Y h r. ⊎_elim (λ a. inl a) (λ m. inr (m.0, (m.1.0, m.1.1, (tau_in r m.1.0 m.1.2.0, h _ m.1.2.1)))))
      (λ X Y h r. ⊎_elim (λ a. inl a) (λ m. inr (m.0, (m.1.0, m.1.1, (tau_out r m.1.0 m.1.2.0, h _ m.1.2.1))))) q

  all_until_is : (q : ℕ) → Least (unfolds S accepts (AllUntil 0 x 1) (parts f g)) q ↔ Least (λ Y r. T (g r) ⊎ (T (f r) × all_next S (or_tau (accepts x)) Y r)) q
  all_until_is q = least_both _ _
      (λ X Y h r. ⊎_elim (λ a. inl a) (λ m. inr (m.0, (m.1, λ i lt. (tau_in r i (m.2 i lt).0, h _ (m.2 i lt).1)))))
      (λ X Y h r. ⊎_elim (λ a. inl a) (λ m. inr (m.0, m.1.0, λ i lt. (tau_out r i (m.1.1 i lt).0, h _ (m.1.1 i lt).1)))) q

  exists_until_by_is : (q : ℕ) → Least (unfolds S accepts (ExistsUntilBy 0 x y 1) (parts f g)) q ↔
      Least (λ Y r. T (f r) × (diamond S (accepts y) (λ t. T (g t)) r ⊎ diamond S (or_tau (accepts x)) Y r)) q
  exists_until_by_is q = least_both _ _
      (λ X Y h r m. (m.0, ⊎_elim (λ e. inl (m.1.0, m.1.1, e)) (λ e. inr (m.1.0, m.1.1, (tau_in r m.1.0 e.0, h _ e.1))) m.1.2))
      (λ X Y h r m. (m.0, ⊎_elim (λ d. (d.0, d.1, inl d.2)) (λ d. (d.0, d.1, inr (tau_out r d.0 d.2.0, h _ d.2.1))) m.1)) q

  abbrev ByTurns : (ℕ → Type 0) → ℕ → Type 0
  ByTurns Y r = T (f r) × diamond S any_events all_states r × box S (both (accepts y) (other (or_tau (accepts x)))) (λ t. T (g t)) r × box S (both (other (accepts y)) (or_tau (accepts x))) Y r ×
      box S (both (accepts y) (or_tau (accepts x))) (λ t. T (g t) ⊎ Y t) r × (diamond S (both (other (accepts y)) (other (or_tau (accepts x)))) all_states r → ⊥)

  module _ (X Y : ℕ → Type 0) (h : (q : ℕ) → X q → Y q) (r : ℕ) where
    abbrev a : ℕ → Bool
    a i = accepts y (ev r i)

    abbrev b : ℕ → Bool
    b i = or_tau (accepts x) (ev r i)

    by_there : unfolds S accepts (AllUntilBy 0 x y 1) (parts f g) X r → ByTurns Y r
    by_there m = (
      m.0,
      (0, m.1, (tt, tt)),
      (λ i lt t. ⊎_elim (λ e. e.1) (λ e. absurd (no_T (b i) (T_right (a i) (not (b i)) t) (tau_in r i e.0))) (m.2 i lt)),
      (λ i lt t. ⊎_elim (λ e. absurd (no_T (a i) (T_left (not (a i)) (b i) t) e.0)) (λ e. h _ e.1) (m.2 i lt)),
      (λ i lt t. ⊎_elim (λ e. inl e.1) (λ e. inr (h _ e.1)) (m.2 i lt)),
      (λ d. ⊎_elim (λ e. no_T (a d.0) (T_left (not (a d.0)) (not (b d.0)) d.2.0) e.0) (λ e. no_T (b d.0) (T_right (not (a d.0)) (not (b d.0)) d.2.0) (tau_in r d.0 e.0)) (m.2 d.0 d.1)),
    )

    by_back : ByTurns X r → unfolds S accepts (AllUntilBy 0 x y 1) (parts f g) Y r
    by_back m = (
      m.0,
      omega (arith, m.1.1),
      λ i lt. ⊎_elim
          (λ s. ⊎_elim
          (λ t. ⊎_elim (λ u. inl (s, u)) (λ u. inr (tau_out r i t, h _ u)) (m.4 i lt (and_T (a i) (b i) s t)))
          (λ t. inl (s, m.2 i lt (and_T (a i) (not (b i)) s t))) (decide (b i)))
          (λ s. ⊎_elim
          (λ t. inr (tau_out r i t, h _ (m.3 i lt (and_T (not (a i)) (b i) s t))))
          (λ t. absurd (m.5 (i, lt, (and_T (not (a i)) (not (b i)) s t, tt)))) (decide (b i)))
          (decide (a i)),
    )

  all_until_by_is : (q : ℕ) → Least (unfolds S accepts (AllUntilBy 0 x y 1) (parts f g)) q ↔ Least ByTurns q
  all_until_by_is q = least_both _ _ by_there by_back q

  -- AG f fails exactly where not f can be reached, round by round
  always_round : (n q : ℕ) → iterate n (unfolds S accepts (Always 0) (parts f g)) (λ _. Unit {0}) q ↔ (iterate n (unfolds S accepts (Eventually 0) (parts (without f) g)) (λ _. ⊥) q → ⊥)
  always_round zero q = (λ _ z. z, λ _. tt)
  always_round (suc n) q = (
    λ m. ⊎_elim (λ s. no_T (f q) s m.0) (λ s. (always_round n (go_to q s.0)).0 (m.1 s.0 s.1) s.2),
    λ h. (by_T (f q) (λ s. h (inl s)), λ i lt. (always_round n (go_to q i)).1 (λ s. h (inr (i, lt, s)))),
  )

  always_is : (q : ℕ) → Greatest (unfolds S accepts (Always 0) (parts f g)) q ↔ (Least (unfolds S accepts (Eventually 0) (parts (without f) g)) q → ⊥)
  always_is q = (λ m d. (always_round d.0 q).0 (m d.0) d.1, λ h n. (always_round n q).1 (λ s. h (n, s)))

pub standing : StandardOperators
standing S accepts f g x y q = record {
  final = final_is S accepts f g x y q;
  diamonds = (λ d. d, λ d. d);
  boxes = boxes_is S accepts f g x y q;
  nexts = nexts_is S accepts f g x y q;
  eventually = eventually_is S accepts f g x y q;
  always = always_is S accepts f g x y q;
  exists_until = exists_until_is S accepts f g x y q;
  all_until = all_until_is S accepts f g x y q;
  exists_until_by = exists_until_by_is S accepts f g x y q;
  all_until_by = all_until_by_is S accepts f g x y q;
}

-- round by round, the dual operator puts in what the operator puts out
not_not : (b : Bool) → not (not b) ≡ b
not_not true = refl
not_not false = refl

dual_round : (F : (ℕ → Bool) → ℕ → Bool) (n : ℕ) → rounds n F (λ _. true) ≡ (λ q. not (rounds n (λ Y r. not (F (λ t. not (Y t)) r)) (λ _. false) q))
dual_round F zero = refl
dual_round F (suc n) = λ i q. (ap (λ X. F X q) (dual_round F n) ∙ sym (not_not _)) i

pub dual : Duality
dual F q = (
  λ h d. no_T _ (subst T (λ i. dual_round F d.0 i q) (h d.0)) d.1,
  λ h n. subst T (λ i. sym (dual_round F n) i q) (to_not _ (λ t. h (n, t))),
)
