use Rattle.std.proofs.Common.{◌≡◌, set, get_or, sym, ap, ◌∙◌, subst, ⊎_elim, arith, rules}
use lib.Bits.{bit_or}
use Rattle.layouts.specs.Layouts.{marks_of}
use Rattle.label_file.specs.LabelPart.{add_marks}
use Rattle.label_file.specs.Found.{Changed}
use Rattle.label_file.proofs.Sets.{mark_here, mark_nowhere}
use Rattle.label_file.proofs.writing.mark_line.Goals as goal

pub returns-then-place-sets : goal.returns-then-place-sets
returns-then-place-sets c =
    let ms = c.args.masks.now in
    let line = c.args.line.now in
    let m = c.in-Ok-Some.field-0 in
    let sets = c.args.sets.now in
    let p : c.from-place.result ≡ m.state = search rules in
    let e = c.add_set.ensures ∙ ap (λ k. set sets k (bit_or (get_or sets k 0) c.in-Ok-Some.set)) p in
    subst (Changed (λ q set. add_marks ms q set (marks_of line)) c.args.states sets) (sym e)
    (mark_here ms line m c.in-Ok-Some.ensures c.in-Ok-Some.set (search rules) c.args.states sets (omega (arith, p, c.if-place-states.true)) (omega (arith, p, c.if-place-sets.true)))

pub returns-else-place-states : goal.returns-else-place-states
returns-else-place-states c =
    let p : c.from-place.result ≡ c.in-Ok-Some.field-0.state = search rules in
    mark_nowhere c.args.masks.now c.args.line.now c.in-Ok-Some.field-0 c.in-Ok-Some.ensures c.in-Ok-Some.set (search rules) _ _
    (λ a b. ⊎_elim (λ e. omega (arith, e.1, p)) (λ e. omega (arith, e, p)) c.else-place-states.either)
