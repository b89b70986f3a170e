-- Readings of event formulas: more turns say no less, enough turns settle them, and what settles follows the grammar. Assumes nothing.
use Rattle.std.proofs.Common.{◌≡◌, ℕ, zero, suc, ◌+◌, ◌*◌, ◌<◌, ◌≤◌, List, [], ◌∷◌, length, Option, sym, refl, ap, ◌∙◌, arith}
use Rattle.symbols.specs.declared.Symbol.{Symbol}
use Rattle.symbols.specs.declared.Symbol.TheVariants as symbol
use Rattle.symbols.specs.Symbols.{taken}
use Rattle.trees.specs.Trees.{not_event, both_events, either_events}
use Rattle.grammar.specs.Grammar.{WrittenEvents}
use Rattle.grammar.specs.EventParsing.{Reading, refused, got, EventSort, whole, more_or, joined, more_and, single, closed_events, start_events, turn_events, events_in, read_events}
use Rattle.grammar.specs.Settling.{settled, SettlesEvents}
use Rattle.grammar.proofs.Readings.{Below, below_refl, then_below, taken_below, later, Fine, then_fine, fine_more, taken_fine, fine_settled, one_outcome}

abbrev Run : Type 0
Run = EventSort → List Symbol → Reading WrittenEvents

-- a turn over readings that say more says more
module _ (f g : Run) (h : (s : EventSort) (ts : List Symbol) → Below (f s ts) (g s ts)) where
  start_below : (s : Symbol) (us : List Symbol) → Below (start_events f s us) (start_events g s us)
  start_below symbol.End us = refl
  start_below symbol.OpenRound us = then_below (f whole us) (g whole us) (closed_events f) (closed_events g) (h whole us) (λ t vs. below_refl (closed_events f t vs))
  start_below symbol.CloseRound us = refl
  start_below symbol.OpenSquare us = refl
  start_below symbol.CloseSquare us = refl
  start_below symbol.OpenCurly us = refl
  start_below symbol.CloseCurly us = refl
  start_below symbol.OpenAngle us = refl
  start_below symbol.CloseAngle us = refl
  start_below symbol.Colon us = refl
  start_below symbol.True us = refl
  start_below symbol.False us = refl
  start_below symbol.Final us = refl
  start_below symbol.Not us = then_below (f single us) (g single us) (λ t vs. got (not_event t) vs) (λ t vs. got (not_event t) vs) (h single us) (λ t vs. refl)
  start_below symbol.And us = refl
  start_below symbol.Or us = refl
  start_below symbol.Tau us = refl
  start_below symbol.Min us = refl
  start_below symbol.Max us = refl
  start_below symbol.Exists us = refl
  start_below symbol.All us = refl
  start_below symbol.Until us = refl
  start_below symbol.ExistsNext us = refl
  start_below symbol.AllNext us = refl
  start_below symbol.Eventually us = refl
  start_below symbol.Always us = refl
  start_below symbol.Silent us = refl
  start_below (symbol.Name n) us = refl

  turn_below : (s : EventSort) (ts : List Symbol) → Below (turn_events f s ts) (turn_events g s ts)
  turn_below whole ts = then_below (f joined ts) (g joined ts) (λ t us. f (more_or t) us) (λ t us. g (more_or t) us) (h joined ts) (λ t us. h (more_or t) us)
  turn_below (more_or t) ts =
      taken_below (taken symbol.Or ts) _ _ (got t ts) (got t ts)
      (λ us. then_below (f joined us) (g joined us) (λ u vs. f (more_or (either_events t u)) vs) (λ u vs. g (more_or (either_events t u)) vs) (h joined us) (λ u vs. h (more_or (either_events t u)) vs)) refl
  turn_below joined ts = then_below (f single ts) (g single ts) (λ t us. f (more_and t) us) (λ t us. g (more_and t) us) (h single ts) (λ t us. h (more_and t) us)
  turn_below (more_and t) ts =
      taken_below (taken symbol.And ts) _ _ (got t ts) (got t ts)
      (λ us. then_below (f single us) (g single us) (λ u vs. f (more_and (both_events t u)) vs) (λ u vs. g (more_and (both_events t u)) vs) (h single us) (λ u vs. h (more_and (both_events t u)) vs)) refl
  turn_below single [] = refl
  turn_below single (s ∷ us) = start_below s us

pub events_more : (n : ℕ) (s : EventSort) (ts : List Symbol) → Below (events_in n s ts) (events_in (suc n) s ts)
unfolding events_in
events_more zero s ts = tt
events_more (suc n) s ts = turn_below (events_in n) (events_in (suc n)) (events_more n) s ts

-- how many turns a reading takes at most, and how many symbols it leaves
abbrev turns : EventSort → ℕ → ℕ
turns whole l = 3 * l + 3
turns (more_or t) l = 3 * l + 1
turns joined l = 3 * l + 2
turns (more_and t) l = 3 * l + 1
turns single l = 3 * l + 1

abbrev leaves : EventSort → ℕ → ℕ
leaves whole l = l
leaves (more_or t) l = suc l
leaves joined l = l
leaves (more_and t) l = suc l
leaves single l = l

module _ (f : Run) (n : ℕ) (h : (s : EventSort) (ts : List Symbol) → turns s (length ts) ≤ n → Fine (leaves s (length ts)) (f s ts)) where
  closed_fine : (b : ℕ) (t : WrittenEvents) (us : List Symbol) → length us < b → Fine b (closed_events f t us)
  closed_fine b t us l = taken_fine b symbol.CloseRound us (got t) refused (λ vs e. omega arith) tt

  start_fine : (s : Symbol) (us : List Symbol) → 3 * length us + 3 ≤ n → Fine (suc (length us)) (start_events f s us)
  start_fine symbol.End us l = tt
  start_fine symbol.OpenRound us l = then_fine (length us) (suc (length us)) (f whole us) (closed_events f) (h whole us l) (λ t vs m. closed_fine (suc (length us)) t vs (omega arith))
  start_fine symbol.CloseRound us l = tt
  start_fine symbol.OpenSquare us l = tt
  start_fine symbol.CloseSquare us l = tt
  start_fine symbol.OpenCurly us l = tt
  start_fine symbol.CloseCurly us l = tt
  start_fine symbol.OpenAngle us l = tt
  start_fine symbol.CloseAngle us l = tt
  start_fine symbol.Colon us l = tt
  start_fine symbol.True us l = omega arith
  start_fine symbol.False us l = omega arith
  start_fine symbol.Final us l = tt
  start_fine symbol.Not us l = then_fine (length us) (suc (length us)) (f single us) (λ t vs. got (not_event t) vs) (h single us (omega arith)) (λ t vs m. omega arith)
  start_fine symbol.And us l = tt
  start_fine symbol.Or us l = tt
  start_fine symbol.Tau us l = omega arith
  start_fine symbol.Min us l = tt
  start_fine symbol.Max us l = tt
  start_fine symbol.Exists us l = tt
  start_fine symbol.All us l = tt
  start_fine symbol.Until us l = tt
  start_fine symbol.ExistsNext us l = tt
  start_fine symbol.AllNext us l = tt
  start_fine symbol.Eventually us l = tt
  start_fine symbol.Always us l = tt
  start_fine symbol.Silent us l = tt
  start_fine (symbol.Name n) us l = omega arith

  turn_fine : (s : EventSort) (ts : List Symbol) → turns s (length ts) ≤ suc n → Fine (leaves s (length ts)) (turn_events f s ts)
  turn_fine whole ts l =
      then_fine (length ts) (length ts) (f joined ts) (λ t us. f (more_or t) us) (h joined ts (omega arith))
      (λ t us m. fine_more (suc (length us)) (length ts) (f (more_or t) us) m (h (more_or t) us (omega arith)))
  turn_fine (more_or t) ts l =
      taken_fine (suc (length ts)) symbol.Or ts _ (got t ts)
      (λ us e. then_fine (length us) (suc (length ts)) (f joined us) (λ u vs. f (more_or (either_events t u)) vs) (h joined us (omega arith))
      (λ u vs m. fine_more (suc (length vs)) (suc (length ts)) (f (more_or (either_events t u)) vs) (omega arith) (h (more_or (either_events t u)) vs (omega arith))))
      (omega arith)
  turn_fine joined ts l =
      then_fine (length ts) (length ts) (f single ts) (λ t us. f (more_and t) us) (h single ts (omega arith))
      (λ t us m. fine_more (suc (length us)) (length ts) (f (more_and t) us) m (h (more_and t) us (omega arith)))
  turn_fine (more_and t) ts l =
      taken_fine (suc (length ts)) symbol.And ts _ (got t ts)
      (λ us e. then_fine (length us) (suc (length ts)) (f single us) (λ u vs. f (more_and (both_events t u)) vs) (h single us (omega arith))
      (λ u vs m. fine_more (suc (length vs)) (suc (length ts)) (f (more_and (both_events t u)) vs) (omega arith) (h (more_and (both_events t u)) vs (omega arith))))
      (omega arith)
  turn_fine single [] l = tt
  turn_fine single (s ∷ us) l = start_fine s us (omega arith)

events_fine : (n : ℕ) (s : EventSort) (ts : List Symbol) → turns s (length ts) ≤ n → Fine (leaves s (length ts)) (events_in n s ts)
unfolding events_in
events_fine zero s ts l = absurd (none s l)
  where
    none : (x : EventSort) → turns x (length ts) ≤ 0 → ⊥
    none whole k = omega arith
    none (more_or t) k = omega arith
    none joined k = omega arith
    none (more_and t) k = omega arith
    none single k = omega arith
events_fine (suc n) s ts l = turn_fine (events_in n) n (events_fine n) s ts l

-- an event formula leaves fewer symbols than it was handed
pub read_fine : (ts : List Symbol) → Fine (length ts) (read_events ts)
read_fine ts = events_fine (3 * length ts + 3) whole ts (omega arith)

-- what a number of turns settles is what is read
pub events_settled : (ts : List Symbol) (o : Option (WrittenEvents × List Symbol)) → SettlesEvents whole ts o → read_events ts ≡ settled o
events_settled ts o h =
    let n : ℕ = 3 * length ts + 3 in
    let all = fine_settled (length ts) (read_events ts) (read_fine ts) in
    let m : ℕ = n + h.turns in
    let one = one_outcome (events_in m whole ts) o all.0 (later events_in events_more m h.turns (omega arith) whole ts o h.over) (later events_in events_more m n (omega arith) whole ts all.0 all.1) in
    all.1 ∙ ap settled (sym one)
