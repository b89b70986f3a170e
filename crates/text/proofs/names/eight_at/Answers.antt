use Rattle.std.proofs.Common.{get_or, refl, ap, ◌∙◌, rules, arith}
use Rattle.text.specs.Names.{packed}
use Rattle.text.proofs.Made.{made_at}
use Rattle.text.proofs.Packs.{packed_le}
use Rattle.text.proofs.names.eight_at.Goals as goal

pub returns : goal.returns
returns c =
    let rest = c.rest_from-rest.result.now in
    c.from_le_bytes.ensures
    ∙ packed_le rest c.from_fn.result
    (λ k lt. made_at _ _ (λ i. get_or rest i 0) (λ x r q l. search rules) _ refl c.from_fn.result 0 8 c.from_fn.ensures.items.each k k (omega arith) lt)
    ∙ ap (packed 8) c.rest_from-rest.ensures
