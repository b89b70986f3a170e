use Rattle.std.proofs.Common.{◌≡◌, sym, ap, ◌∙◌, subst, arith, rules}
use Rattle.std.specs.Option.{unwrap_or}
use Rattle.std.proofs.lemmas.Iterator.{YieldsList-from_range, YieldsList-from_map}
use Rattle.std.proofs.lemmas.Iterator.Consumers.{reduce_from_yields_List}
use Rattle.systems.specs.Meaning.{move_count}
use Rattle.systems.specs.Largest.{largest, largest_below, Largest}
use Rattle.systems.proofs.Most.{largest_is, largest_reduced}
use Rattle.systems.proofs.largest.largest_move_count.Goals as goal

pub returns : goal.returns
returns g c =
    let t = (g.S.System.meaning c.args.s.now).transitions in
    let n = c.states.result in
    let is : c.unwrap_or.result ≡ largest t =
    c.unwrap_or.ensures ∙ ap (λ m. unwrap_or m 0) (reduce_from_yields_List _ _ c.max.result c.max.ensures.ran (YieldsList-from_map _ (move_count t) (YieldsList-from_range 0 n n c.map.ensures.source (omega arith)) c.map.ensures.closure (λ x r q k. search rules))) ∙ largest_reduced (move_count t) n ∙ ap (largest_below (move_count t)) c.states.ensures in
    record { is = is; most = subst (Largest t) (sym is) (largest_is t (g.S.System.lawful c.args.s.now).goes) }
