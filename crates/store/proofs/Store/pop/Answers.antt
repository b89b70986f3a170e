use Rattle.std.proofs.Common.{◌≡◌, ◌+◌, ◌-◌, ◌<◌, length, take, refl, ap, ◌∙◌, arith}
use Rattle.std.proofs.lemmas.List.{take_more}
use Rattle.store.proofs.Store.pop.Goals as goal

pub returns : goal.returns
returns g c =
    let k = c.args.self.now.count in
    let xs = c.args.self.now.places.now in
    let back : k ≡ (k - 1) + 1 = omega (arith, c.requires) in
    let lt : k - 1 < length xs = omega (arith, c.requires, c.args.self.now.within) in
    record { newest = ap (λ m. take m xs) back ∙ take_more xs (k - 1) _ lt; kept = refl }
