use Rattle.std.proofs.Common.{◌≡◌, ◌%◌, ◌^◌, ◌<◌, get_or, sym, ap, ◌∙◌, mod-eq_of_lt, arith}
use Rattle.std.specs.Option.{unwrap_or}
use Rattle.std.proofs.lemmas.Option.{unwrap_or-slice_get}
use Rattle.systems.specs.Limits.{max_events}
use Rattle.systems.specs.Meaning.{move_at}
use Rattle.systems.specs.Tabled.{move_of}
use Rattle.systems.specs.declared.transition.Transition.{Transition}
use Rattle.systems.proofs.Kept.{read_map}
use Rattle.tables.specs.Shown.{shown_records, transitions_of}
use Rattle.tables.proofs.table.Table.move_at.Goals as goal

pub returns : goal.returns
returns c =
    let t = c.args.self.now in
    let rs = shown_records t c.args.q in
    let d : Transition = record { source = c.default.result.source; events = c.default.result.events; target = c.initial.result } in
    let read : c.unwrap_or.result ≡ get_or rs c.args.i d = c.unwrap_or.ensures ∙ ap (λ r. unwrap_or r d) c.record_at.ensures ∙ unwrap_or-slice_get rs c.args.i d in
    let none : move_of d ≡ record { events = 0; target = t.shape.initial } = λ i. record { events = c.default.ensures.1.0 i % 2 ^ max_events; target = c.initial.ensures i } in
    let is : move_of c.unwrap_or.result ≡ move_at (transitions_of t) c.args.q c.args.i = ap move_of read ∙ sym (read_map move_of rs c.args.i d _ none) in
    let small : c.unwrap_or.result.events < 2 ^ max_events = omega arith in
    record { events = sym (mod-eq_of_lt small) ∙ ap (λ m. m.events) is; target = ap (λ m. m.target) is }
