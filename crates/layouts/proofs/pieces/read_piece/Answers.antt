use Rattle.std.proofs.Common.{drop, rules, length-drop}
use Rattle.layouts.proofs.Matching.{matched_is, matched_short}
use Rattle.layouts.proofs.pieces.read_piece.Goals as goal

pub overflow_add-result-else-same-piece : goal.overflow_add-result-else-same-piece
overflow_add-result-else-same-piece c =
    let s = drop c.args.at c.args.line.now in
    let e = matched_is s c.args.piece.now in
    let h = matched_short s c.args.piece.now in
    let l = length-drop c.args.at c.args.line.now in
    search rules

pub returns-then-same-piece : goal.returns-then-same-piece
returns-then-same-piece c = let e = matched_is (drop c.args.at c.args.line.now) c.args.piece.now in search rules

pub returns-else-same-piece : goal.returns-else-same-piece
returns-else-same-piece c = let e = matched_is (drop c.args.at c.args.line.now) c.args.piece.now in search rules
