use Rattle.std.proofs.Common.{◌≡◌, false, leb, is_ok, length, List, sym, ap, ◌∙◌, rules}
use Rattle.text.specs.declared.names.Name.{Name}
use Rattle.text.specs.Held.{held}
use Rattle.text.specs.Numbering.{names_limit}
use Rattle.text.proofs.Tables.{join_stuck}
use Rattle.text.proofs.numbering.Names.join_all.Goals as goal

pub returns-in_err-join-clause-fits : goal.returns-in_err-join-clause-fits
returns-in_err-join-clause-fits c =
    let stuck = join_stuck (held c.loop-name.joined) c.args.names.now c.loop-name.name-index _ c.loop-name-test.true (sym c.in_err-join.ensures.fits) in
    let failed : is_ok c.from_residual.result ≡ false = search rules in
    failed ∙ sym (ap (λ (xs : List Name). leb (length xs) names_limit) (sym c.loop-name.invariant) ∙ stuck)
