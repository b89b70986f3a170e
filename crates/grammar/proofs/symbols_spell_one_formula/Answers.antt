use Rattle.grammar.proofs.Follows.{one_formula}
use Rattle.grammar.proofs.symbols_spell_one_formula.Goals as goal

pub returns : goal.returns
returns c = one_formula
