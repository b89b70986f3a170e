use Rattle.std.proofs.Common.{drop, rules}
use Rattle.layouts.proofs.Matching.{before_is}
use Rattle.layouts.proofs.pieces.byte_from.Goals as goal

pub returns : goal.returns
returns c = let e = before_is c.args.wanted (drop c.args.at c.args.text.now) in search rules
