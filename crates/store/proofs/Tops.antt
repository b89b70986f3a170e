-- The newest of a list, which stands last.
use Rattle.std.proofs.Common.{length, Some, None, sym, ap, ◌∙◌, arith}
use Rattle.std.proofs.lemmas.List.{length_push, same_from_push}
use Rattle.store.specs.Stored.{LastInFirstOut}

pub last_first : (X : Type 0) → LastInFirstOut X
last_first X before pushed after x None p t = absurd (omega (arith, ap length (sym p ∙ t.0), length_push before x))
last_first X before pushed after x (Some y) p t =
    let both = same_from_push after before y x (sym t ∙ p) in
    (ap Some both.1, both.0)
