use Rattle.std.proofs.Common.{◌≡◌, drop}
use Rattle.symbols.specs.Symbols.{symbol_in}
use Rattle.symbols.proofs.symbol_in.Given as goal

-- the entries that are left decide
abbrev pub invariant-loop-spelling : goal.invariant-loop-spelling
invariant-loop-spelling l = symbol_in (drop l.spelling-index l.entries) l.word ≡ symbol_in l.entries l.word
