use Rattle.std.proofs.Common.{◌∙◌, arith}
use Rattle.symbols.proofs.Onward.{lexed_onward, lexed_more, lexed_end, lexed_fault}
use Rattle.symbols.proofs.is_lexed.Goals as goal

pub returns-in-End : goal.returns-in-End
returns-in-End c = lexed_end c.args.text.now c.loop-placed.at _ _ c.in-Ok.placed.token c.in-Ok.ensures c.in-End.is ∙ c.loop-placed.invariant

pub loop-placed-smaller : goal.loop-placed-smaller
loop-placed-smaller c =
    let o = lexed_onward c.args.text.now c.loop-placed.at _ _ c.in-Ok.placed.token c.in-Ok.ensures c.in_default-token.not-End in
    omega (arith, o.0, o.1)

pub loop-placed-preserved : goal.loop-placed-preserved
loop-placed-preserved c =
    lexed_more c.args.text.now c.loop-placed.at _ _ c.in-Ok.placed.token c.in-Ok.ensures c.in_default-token.not-End ∙ c.loop-placed.invariant

pub returns : goal.returns
returns c = lexed_fault c.args.text.now c.loop-placed.at _ c.in_default.ensures ∙ c.loop-placed.invariant
