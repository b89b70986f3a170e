-- What rules show of a move, and the proof that they show what they say. Assumes nothing.
use Rattle.std.proofs.Common.{◌≡◌, ℕ, zero, suc, ◌^◌, ◌<◌, Bool, true, false, cond, ◌&&◌, ◌||◌, eqb, List, [], ◌∷◌, length, get_or, fold, sym, refl, ap, ◌∙◌, ⊎_elim, arith}
use lib.Bits.{bit_or}
use Rattle.std.proofs.Math.Bool.{or-false, or_assoc}
use lib.ListN.{length-map}
use Rattle.std.proofs.lemmas.Bool.{cond-false, and_parts, and_from, or_cases, or_left, or_right, eqb-true, eq-eqb, false≢true}
use Rattle.systems.specs.Meaning.{Transitions, missing, move_count, move_at, events_at, target_at, member}
use Rattle.systems.specs.Law.{member_none}
use Rattle.systems.proofs.Kept.{read_map}
use Rattle.systems.proofs.Members.{member_or, member_one}
use Rattle.abstraction.specs.Rules.{blank}
use Rattle.abstraction.specs.Abstracted.{with_shown, shown_by, shown_move, abstracted_transitions}
use Rattle.abstraction.specs.Showing.{Shows, ShowsExactly}
use Rattle.abstraction.specs.declared.rule.Rule.{Rule}

-- whether some rule shows e, as a test
shows : List Rule → (events e : ℕ) → Bool
shows [] events e = false
shows (r ∷ rules) events e = (member events r.seen && eqb r.shown e) || shows rules events e

step : (f : Bool) (set s e : ℕ) → member (cond f (bit_or set (2 ^ s)) set) e ≡ (member set e || (f && eqb s e))
step true set s e = member_or set (2 ^ s) e ∙ ap (λ b. member set e || b) (member_one s e)
step false set s e = sym (or-false (member set e))

onwards : (events e : ℕ) (rules : List Rule) (set : ℕ) → member (fold (with_shown events) set rules) e ≡ (member set e || shows rules events e)
unfolding shows
onwards events e [] set = sym (or-false (member set e))
onwards events e (r ∷ rules) set =
    onwards events e rules (with_shown events set r)
    ∙ ap (λ b. b || shows rules events e) (step (member events r.seen) set r.shown e)
    ∙ or_assoc (member set e) (member events r.seen && eqb r.shown e) (shows rules events e)

exactly : (rules : List Rule) (events e : ℕ) → member (shown_by rules events) e ≡ shows rules events e
exactly rules events e = onwards events e rules 0 ∙ ap (λ b. b || shows rules events e) (member_none e)

shows_row : (rules : List Rule) (events e : ℕ) → shows rules events e ≡ true → Shows rules events e
unfolding shows
shows_row [] events e h = absurd (false≢true h)
shows_row (r ∷ rules) events e h = ⊎_elim
    (λ t. let p = and_parts (member events r.seen) (eqb r.shown e) t in record { row = 0; within = omega arith; seen = p.0; shown = eqb-true r.shown e p.1 })
    (λ t. let s = shows_row rules events e t in record { row = suc s.row; within = omega (arith, s.within); seen = s.seen; shown = s.shown })
    (or_cases (member events r.seen && eqb r.shown e) (shows rules events e) h)

row_shows : (rules : List Rule) (events e row : ℕ) → row < length rules → member events (get_or rules row blank).seen ≡ true → (get_or rules row blank).shown ≡ e → shows rules events e ≡ true
unfolding shows
row_shows [] events e row h seen shown = absurd (omega arith)
row_shows (r ∷ rules) events e zero h seen shown = or_left _ (shows rules events e) (and_from (member events r.seen) (eqb r.shown e) seen (eq-eqb r.shown e shown))
row_shows (r ∷ rules) events e (suc row) h seen shown = or_right (member events r.seen && eqb r.shown e) (shows rules events e) (row_shows rules events e row (omega arith) seen shown)

-- nothing is shown of no events
shown_none : (rules : List Rule) → shown_by rules 0 ≡ 0
shown_none [] = refl
shown_none (r ∷ rules) = ap (λ n. fold (with_shown 0) n rules) (cond-false (member 0 r.seen) (bit_or 0 (2 ^ r.shown)) 0 (member_none r.seen)) ∙ shown_none rules

module _ (rules : List Rule) (t : Transitions) (q : ℕ) where
  pub shown_count : move_count (abstracted_transitions rules t) q ≡ move_count t q
  shown_count = simp length-map

  shown_at : (i : ℕ) → move_at (abstracted_transitions rules t) q i ≡ shown_move rules (move_at t q i)
  shown_at i = read_map (shown_move rules) (t.moves q) i (missing t) (missing (abstracted_transitions rules t)) (λ j. record { events = shown_none rules j; target = t.initial })

  pub shown_target : (i : ℕ) → target_at (abstracted_transitions rules t) q i ≡ target_at t q i
  shown_target i = ap (λ m. m.target) (shown_at i)

  pub shown_events : (i : ℕ) → events_at (abstracted_transitions rules t) q i ≡ shown_by rules (events_at t q i)
  shown_events i = ap (λ m. m.events) (shown_at i)

pub shows_exactly : ShowsExactly
shows_exactly rules t q = record {
  count = shown_count rules t q;
  target = shown_target rules t q;
  only = λ i e h. shows_row rules (events_at t q i) e (sym (exactly rules (events_at t q i) e) ∙ sym (ap (λ s. member s e) (shown_events rules t q i)) ∙ h);
  each = λ i e s. ap (λ n. member n e) (shown_events rules t q i) ∙ exactly rules (events_at t q i) e ∙ row_shows rules (events_at t q i) e s.row s.within s.seen s.shown;
}
