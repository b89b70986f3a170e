-- The standard equations of the operators, for sets of states as tests. Assumes nothing.
use Rattle.std.specs.Prelude.{ℕ, zero, suc, ◌<◌, Bool, true, false, not, ◌&&◌, ◌||◌, T, ◌⊎◌, ◌↔◌, ◌==◌}
use Rattle.systems.specs.Meaning.{Meaning, move_count, events_at, target_at}
use Rattle.logic.specs.Guards.{Guard}
use Rattle.logic.specs.declared.nodes.Kind.TheVariants.{Final, Diamond, BoxAll, AllNext, Eventually, Always, ExistsUntil, AllUntil, ExistsUntilBy, AllUntilBy}
use Rattle.logic.specs.Unfolding.{Agree, unfolds, Least, Greatest}

-- part 0 holds on f, any other on g
abbrev pub which : ℕ → (ℕ → Bool) → (ℕ → Bool) → ℕ → Bool
which zero f g = f
which (suc k) f g = g

abbrev pub parts : (ℕ → Bool) → (ℕ → Bool) → Bool → ℕ → ℕ → Type 0
parts f g p k q = Agree p (T (which k f g q))

-- the complement of a set
abbrev pub without : (ℕ → Bool) → ℕ → Bool
without f q = not (f q)

module _ (S : Meaning) where
  -- <c> X, with a test of events
  abbrev pub diamond : (ℕ → Bool) → (ℕ → Type 0) → ℕ → Type 0
  diamond c X q = (i : ℕ) × (i < move_count S.transitions q) × (T (c (events_at S.transitions q i)) × X (target_at S.transitions q i))

  -- [c] X
  abbrev pub box : (ℕ → Bool) → (ℕ → Type 0) → ℕ → Type 0
  box c X q = (i : ℕ) → i < move_count S.transitions q → T (c (events_at S.transitions q i)) → X (target_at S.transitions q i)

  -- AX {c} X
  abbrev pub all_next : (ℕ → Bool) → (ℕ → Type 0) → ℕ → Type 0
  all_next c X q = (0 < move_count S.transitions q) × ((i : ℕ) → i < move_count S.transitions q → T (c (events_at S.transitions q i)) × X (target_at S.transitions q i))

-- all sets of events, all states
abbrev pub any_events : ℕ → Bool
any_events s = true

abbrev pub all_states : ℕ → Type 0
all_states q = Unit {0}

-- the guard's test, or tau
abbrev pub or_tau : (ℕ → Bool) → ℕ → Bool
or_tau c s = c s || s == 0

-- one test and another
abbrev pub both : (ℕ → Bool) → (ℕ → Bool) → ℕ → Bool
both c d s = c s && d s

abbrev pub other : (ℕ → Bool) → ℕ → Bool
other c s = not (c s)

-- the standard equations over one system, for sets f and g and guards x and y, at the state q; a set is written as a test of states
pub record Standard (S : Meaning) (accepts : Guard → ℕ → Bool) (f g : ℕ → Bool) (x y : Guard) (q : ℕ) : Type 0 where
  -- FINAL is not <true> true
  pub final : unfolds S accepts Final (parts f g) (λ _. ⊥) q ↔ (diamond S any_events all_states q → ⊥)
  -- <χ> f
  pub diamonds : unfolds S accepts (Diamond x 0) (parts f g) (λ _. ⊥) q ↔ diamond S (accepts x) (λ r. T (f r)) q
  -- [χ] f is not <χ> not f
  pub boxes : unfolds S accepts (BoxAll x 0) (parts f g) (λ _. ⊥) q ↔ (diamond S (accepts x) (λ r. T (without f r)) q → ⊥)
  -- AX {χ} f is (<χ> true) and not <χ> not f and not <not χ> true
  pub nexts : unfolds S accepts (AllNext x 0) (parts f g) (λ _. ⊥) q ↔
      (diamond S (accepts x) all_states q × (diamond S (accepts x) (λ r. T (without f r)) q → ⊥) × (diamond S (other (accepts x)) all_states q → ⊥))
  -- EF f is the least Y: f or <> Y
  pub eventually : Least (unfolds S accepts (Eventually 0) (parts f g)) q ↔ Least (λ Y r. T (f r) ⊎ diamond S any_events Y r) q
  -- AG f is not EF not f
  pub always : Greatest (unfolds S accepts (Always 0) (parts f g)) q ↔ (Least (unfolds S accepts (Eventually 0) (parts (without f) g)) q → ⊥)
  -- E[f {χ} U g] is the least Y: g or (f and <χ or tau> Y)
  pub exists_until : Least (unfolds S accepts (ExistsUntil 0 x 1) (parts f g)) q ↔ Least (λ Y r. T (g r) ⊎ (T (f r) × diamond S (or_tau (accepts x)) Y r)) q
  -- A[f {χ} U g] is the least Y: g or (f and AX {χ or tau} Y)
  pub all_until : Least (unfolds S accepts (AllUntil 0 x 1) (parts f g)) q ↔ Least (λ Y r. T (g r) ⊎ (T (f r) × all_next S (or_tau (accepts x)) Y r)) q
  -- E[f {χ} U {ψ} g] is the least Y: f and (<ψ> g or <χ or tau> Y)
  pub exists_until_by : Least (unfolds S accepts (ExistsUntilBy 0 x y 1) (parts f g)) q ↔
      Least (λ Y r. T (f r) × (diamond S (accepts y) (λ t. T (g t)) r ⊎ diamond S (or_tau (accepts x)) Y r)) q
  -- A[f {χ} U {ψ} g] is the least Y: f and <true> true, and after a move with ψ alone g, with χ or tau alone Y, with both g or Y, and no other move
  pub all_until_by : Least (unfolds S accepts (AllUntilBy 0 x y 1) (parts f g)) q ↔
      Least (λ Y r. T (f r) × diamond S any_events all_states r × box S (both (accepts y) (other (or_tau (accepts x)))) (λ t. T (g t)) r × box S (both (other (accepts y)) (or_tau (accepts x))) Y r ×
      box S (both (accepts y) (or_tau (accepts x))) (λ t. T (g t) ⊎ Y t) r × (diamond S (both (other (accepts y)) (other (or_tau (accepts x)))) all_states r → ⊥)) q

-- they hold over every system, for all sets, guards and states
abbrev pub StandardOperators : Type 0
StandardOperators = (S : Meaning) (accepts : Guard → ℕ → Bool) (f g : ℕ → Bool) (x y : Guard) (q : ℕ) → Standard S accepts f g x y q

-- n rounds of an operator on tests of states, begun with the test X
abbrev pub rounds : ℕ → ((ℕ → Bool) → ℕ → Bool) → (ℕ → Bool) → ℕ → Bool
rounds zero F X = X
rounds (suc n) F X = F (rounds n F X)

-- max Y: F(Y) is not min Y: not F(not Y), for every operator on tests of states
abbrev pub Duality : Type 0
Duality = (F : (ℕ → Bool) → ℕ → Bool) (q : ℕ) →
    ((n : ℕ) → T (rounds n F (λ _. true) q)) ↔ (((n : ℕ) × T (rounds n (λ Y r. not (F (λ t. not (Y t)) r)) (λ _. false) q)) → ⊥)
