use Rattle.std.proofs.Common.{◌≡◌, length, take, set, sym, ap}
use Rattle.std.proofs.lemmas.List.{take_more_set, length-take-le}
use Rattle.store.proofs.Store.put.Goals as goal

pub returns : goal.returns
returns g c =
    let k = c.args.self.now.count in
    let xs = c.args.self.now.places.now in
    let x = c.args.x in
    let all : length (take k xs) ≡ k = length-take-le k xs c.args.self.now.within in
    (take_more_set xs k x c.requires, ap (λ m. set xs m x) (sym all))
