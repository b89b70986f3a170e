use Rattle.std.proofs.Common.{◌≡◌, ◌-◌, length}
use Rattle.symbols.specs.Symbols.{lexes_from, lexes}
use Rattle.symbols.proofs.is_lexed.Given as goal

abbrev pub invariant-loop-placed : goal.invariant-loop-placed
invariant-loop-placed l = lexes_from l.text l.at ≡ lexes l.text

abbrev pub decreases-loop-placed : goal.decreases-loop-placed
decreases-loop-placed l = length l.text - l.at
