-- What readings come to in some number of turns. Assumes nothing.
use Rattle.std.specs.Prelude.{◌≡◌, ℕ, List, Some, None, Option}
use Rattle.symbols.specs.declared.Symbol.{Symbol}
use Rattle.grammar.specs.Grammar.{WrittenEvents, Written}
use Rattle.grammar.specs.EventParsing.{Reading, refused, got, EventSort, events_in}
use Rattle.grammar.specs.Parsing.{Sort, formula_in}

-- a reading that is over: with what was read and the symbols behind it, or refused
abbrev pub settled : {A : Type 0} → Option (A × List Symbol) → Reading A
settled None = refused
settled (Some p) = got p.0 p.1

-- a number of turns settles the reading of an event formula
pub record SettlesEvents (sort : EventSort) (ts : List Symbol) (o : Option (WrittenEvents × List Symbol)) : Type 0 where
  pub turns : ℕ
  pub over : events_in turns sort ts ≡ settled o

-- a number of turns settles the reading of a formula
pub record Settles (sort : Sort) (ts : List Symbol) (o : Option (Written × List Symbol)) : Type 0 where
  pub turns : ℕ
  pub over : formula_in turns sort ts ≡ settled o
