use Rattle.std.proofs.Common.{◌≡◌, suc, ◌+◌, ◌-◌, length, sym, ◌∙◌, arith}
use Rattle.files.specs.Lines.{row_of, rows_left}
use Rattle.transition_file.proofs.Scanning.{line_missing, line_good, line_bad}
use Rattle.transition_file.proofs.scans.misplaced_line.Goals as goal

pub returns-in_default : goal.returns-in_default
returns-in_default c =
    let n = c.args.count - c.loop-turn._turn in
    let m = c.args.count - (c.loop-turn._turn + 1) in
    let t : n ≡ suc m = omega (arith, c.loop-turn-test.true) in
    sym (c.loop-turn.invariant ∙ line_missing (length c.args.file.now) n m t (rows_left c.loop-turn.lines) c.in_default.ensures.steps.0)

pub loop-turn-preserved : goal.loop-turn-preserved
loop-turn-preserved c =
    let n = c.args.count - c.loop-turn._turn in
    let m = c.args.count - (c.loop-turn._turn + 1) in
    let t : n ≡ suc m = omega (arith, c.loop-turn-test.true) in
    c.loop-turn.invariant ∙ line_good (length c.args.file.now) n m t (rows_left c.loop-turn.lines) (row_of c.in-Some.line) _ c.in-Some.ensures.steps (sym c.if-not-is_arrow.ensures)

pub returns-then-not-is_arrow : goal.returns-then-not-is_arrow
returns-then-not-is_arrow c =
    let n = c.args.count - c.loop-turn._turn in
    let m = c.args.count - (c.loop-turn._turn + 1) in
    let t : n ≡ suc m = omega (arith, c.loop-turn-test.true) in
    sym (c.loop-turn.invariant ∙ line_bad (length c.args.file.now) n m t (rows_left c.loop-turn.lines) (row_of c.in-Some.line) _ c.in-Some.ensures.steps (sym c.if-not-is_arrow.ensures))
