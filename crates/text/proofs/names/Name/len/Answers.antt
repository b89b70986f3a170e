use Rattle.std.proofs.Common.{eqb, not, refl, ◌∙◌, rules}
use Rattle.std.specs.List.{range_with_len}
use Rattle.std.proofs.lemmas.Iterator.{YieldsList-from_range}
use Rattle.std.proofs.lemmas.Iterator.Search.{YieldsList-from_take_while}
use Rattle.std.proofs.lemmas.Iterator.Consumers.{count_from_yields_List}
use Rattle.std.proofs.lemmas.List.Folds.{length-prefix_len}
use Rattle.text.specs.Names.{byte_of}
use Rattle.text.proofs.Packs.{prefix_solid}
use Rattle.text.proofs.names.Name.len.Goals as goal

pub returns : goal.returns
returns c =
    let n = c.args.self.now in
    count_from_yields_List c.take_while.result c.count.result c.count.ensures.ran
    (YieldsList-from_take_while _ (λ i. not (eqb (byte_of n i) 0)) (YieldsList-from_range 0 24 24 c.take_while.ensures.source refl)
    c.take_while.ensures.closure c.take_while.ensures.done (λ x b q k. search rules))
    ∙ length-prefix_len (λ i. not (eqb (byte_of n i) 0)) (range_with_len 0 24)
    ∙ prefix_solid n 0 24
