use Rattle.std.proofs.Common.{◌<◌, Some, length, refl, ap, ◌∙◌, arith, rules}
use Rattle.std.proofs.lemmas.Iterator.{YieldsList-from_slice}
use Rattle.std.proofs.lemmas.Iterator.Consumers.{YieldsList-turn}
use Rattle.std.proofs.lemmas.List.{get_or_default}
use Rattle.lists.specs.Items.{items}
use Rattle.systems.specs.Limits.{max_events}
use Rattle.abstraction.specs.Rules.{blank}
use Rattle.abstraction.proofs.sheet.Sheet.show.Goals as goal

pub fold-requires-clause-callable : goal.fold-requires-clause-callable
fold-requires-clause-callable c = record {
  at = λ xs t q x u y f st.
      let s = c.args.self.now in
      let turn = YieldsList-turn (YieldsList-from_slice (items s.rules) (c.iter.ensures.rest ∙ c.as_slice.ensures)) xs t y (Some x) u x refl st in
      let is = turn.1 ∙ get_or_default (items s.rules) (length xs) x.now blank turn.0 in
      let small = s.small (length xs) blank turn.0 in
      let seen : x.now.seen < max_events = omega (arith, ap (λ r. r.seen) is, small.0) in
      let shown : x.now.shown < max_events = omega (arith, ap (λ r. r.shown) is, small.1) in
      search rules;
}
