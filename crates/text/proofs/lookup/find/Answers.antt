use Rattle.std.proofs.Common.{◌≡◌, Bool, rules, ap, ◌∙◌}
use Rattle.text.specs.Lookup.{latest}
use Rattle.text.specs.Names.{same_name}
use Rattle.text.proofs.Backs.{latest_from_back}
use Rattle.text.proofs.lookup.find.Goals as goal

pub returns : goal.returns
returns g c =
    let p : g.row.T.Denot → Bool = λ x. same_name (g.T.Named.called x) c.args.name.now in
    let found : c.rposition.result ≡ latest p c.args.records.now =
    latest_from_back _ _ p (λ x b q k. search rules) c.iter.result _ c.rposition.result c.rposition.ensures.ran ∙ ap (latest p) c.iter.ensures.rest in
    search rules
