-- What the grammar spells is what is read. Assumes nothing.
use Rattle.std.specs.Prelude.{◌≡◌, ◌⊎◌, ◌↔◌, List, Some}
use Rattle.symbols.specs.declared.Symbol.{Symbol}
use Rattle.grammar.specs.Grammar.{Written, SpellsAll}
use Rattle.grammar.specs.Parsing.{tree_of}

-- symbols spell a formula exactly if its tree is what is read of them
abbrev pub ReadIsSpelled : Type 0
ReadIsSpelled = (ts : List Symbol) (t : Written) → SpellsAll t ts ↔ (tree_of ts ≡ Some t)

-- symbols spell one formula or none, and it can be told which
pub record OneFormula (ts : List Symbol) : Type 0 where
  pub alone : (t u : Written) → SpellsAll t ts → SpellsAll u ts → t ≡ u
  pub told : ((t : Written) × SpellsAll t ts) ⊎ ((t : Written) → SpellsAll t ts → ⊥)

abbrev pub OneFormulaEach : Type 0
OneFormulaEach = (ts : List Symbol) → OneFormula ts
