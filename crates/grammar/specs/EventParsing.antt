-- The grammar of event formulas as a function, in turns. Assumes nothing.
use Rattle.std.specs.Prelude.{ℕ, zero, suc, ◌+◌, ◌*◌, List, [], ◌∷◌, length, Some, None, Option}
use Rattle.symbols.specs.declared.Symbol.{Symbol}
use Rattle.symbols.specs.declared.Symbol.TheVariants as symbol
use Rattle.symbols.specs.Symbols.{taken}
use Rattle.trees.specs.Trees.{top, bottom, tau, event, not_event, both_events, either_events}
use Rattle.grammar.specs.Grammar.{WrittenEvents}

-- what a reading comes to: what was read and the symbols behind it, a refusal, or nothing yet where the turns are spent
pub data Reading (A : Type 0) : Type 0 where
  spent : Reading A
  refused : Reading A
  got : A → List Symbol → Reading A

-- reads on behind what was read
abbrev pub and_then : {A B : Type 0} → Reading A → (A → List Symbol → Reading B) → Reading B
and_then spent f = spent
and_then refused f = refused
and_then (got a us) f = f a us

-- reads on behind a symbol that was taken, or does otherwise
abbrev pub if_taken : {A : Type 0} → Option (List Symbol) → (List Symbol → Reading A) → Reading A → Reading A
if_taken None f x = x
if_taken (Some us) f x = f us

-- what is read: a whole formula; the rest of one whose left side was read; a conjunction; the rest of one; an operand
pub data EventSort : Type 0 where
  whole : EventSort
  more_or : WrittenEvents → EventSort
  joined : EventSort
  more_and : WrittenEvents → EventSort
  single : EventSort

-- one turn, over what the others read
module _ (rest : EventSort → List Symbol → Reading WrittenEvents) where
  abbrev pub closed_events : WrittenEvents → List Symbol → Reading WrittenEvents
  closed_events t us = if_taken (taken symbol.CloseRound us) (got t) refused

  -- by the first symbol
  abbrev pub start_events : Symbol → List Symbol → Reading WrittenEvents
  start_events symbol.End us = refused
  start_events symbol.OpenRound us = and_then (rest whole us) closed_events
  start_events symbol.CloseRound us = refused
  start_events symbol.OpenSquare us = refused
  start_events symbol.CloseSquare us = refused
  start_events symbol.OpenCurly us = refused
  start_events symbol.CloseCurly us = refused
  start_events symbol.OpenAngle us = refused
  start_events symbol.CloseAngle us = refused
  start_events symbol.Colon us = refused
  start_events symbol.True us = got top us
  start_events symbol.False us = got bottom us
  start_events symbol.Final us = refused
  start_events symbol.Not us = and_then (rest single us) (λ t vs. got (not_event t) vs)
  start_events symbol.And us = refused
  start_events symbol.Or us = refused
  start_events symbol.Tau us = got tau us
  start_events symbol.Min us = refused
  start_events symbol.Max us = refused
  start_events symbol.Exists us = refused
  start_events symbol.All us = refused
  start_events symbol.Until us = refused
  start_events symbol.ExistsNext us = refused
  start_events symbol.AllNext us = refused
  start_events symbol.Eventually us = refused
  start_events symbol.Always us = refused
  start_events symbol.Silent us = refused
  start_events (symbol.Name n) us = got (event n) us

  abbrev pub single_events : List Symbol → Reading WrittenEvents
  single_events [] = refused
  single_events (s ∷ us) = start_events s us

  abbrev pub turn_events : EventSort → List Symbol → Reading WrittenEvents
  turn_events whole ts = and_then (rest joined ts) (λ t us. rest (more_or t) us)
  turn_events (more_or t) ts = if_taken (taken symbol.Or ts) (λ us. and_then (rest joined us) (λ u vs. rest (more_or (either_events t u)) vs)) (got t ts)
  turn_events joined ts = and_then (rest single ts) (λ t us. rest (more_and t) us)
  turn_events (more_and t) ts = if_taken (taken symbol.And ts) (λ us. and_then (rest single us) (λ u vs. rest (more_and (both_events t u)) vs)) (got t ts)
  turn_events single ts = single_events ts

unfoldable pub events_in : ℕ → EventSort → List Symbol → Reading WrittenEvents
events_in zero sort ts = spent
events_in (suc turns) sort ts = turn_events (events_in turns) sort ts

-- the event formula at the front: so many turns reach its end
abbrev pub read_events : List Symbol → Reading WrittenEvents
read_events ts = events_in (3 * length ts + 3) whole ts
