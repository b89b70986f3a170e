use Rattle.std.proofs.Common.{◌≡◌, suc, length, sym, refl, ap, ◌∙◌, arith, rules}
use Rattle.std.proofs.lemmas.Result.{err_from_is_err_and}
use Rattle.layouts.specs.Layouts.{listed_at}
use Rattle.layouts.proofs.Items.{listed_onward}
use Rattle.contents.specs.NamesLine.{map_ok}
use Rattle.contents.specs.MarksLine.{add_mark}
use Rattle.contents.proofs.Folds.{sofar_fault, sofar_more}
use Rattle.contents.proofs.Marking.{marked, marked_fold}
use Rattle.contents.proofs.marks.read_marks.Goals as goal

pub loop-next-init : goal.loop-next-init
loop-next-init c = record { turns = suc (length c.args.line.now); many = omega arith; comes = refl }

pub returns-in_err-listed : goal.returns-in_err-listed
returns-in_err-listed c =
    let s = c.args.line.now in
    let q = c.in_ok-state.state in
    let p = err_from_is_err_and c.from_residual-in_err-listed.result c.from_residual-in_err-listed.ensures.1 in
    let g = rw c.in-Some.is at c.loop-next.invariant in
    let f = sofar_fault (add_mark c.args.masks.now) (listed_at s) s _ _ c.in-Some.at g _ (sym c.in_err-listed.ensures) in
    rw (p.1, p.2) (sym (marked_fold c.args.masks.now s q (sym c.in_ok-state.ensures) ∙ ap (map_ok (marked q.value)) f))

pub loop-next-preserved : goal.loop-next-preserved
loop-next-preserved c =
    let s = c.args.line.now in
    let n = c.in_ok-listed.listed in
    let g = rw c.in-Some.is at c.loop-next.invariant in
    let e : c.and_then-listing.result ≡ add_mark c.args.masks.now c.loop-next.listing n.number = search rules in
    let f = sofar_more (add_mark c.args.masks.now) (listed_at s) s _ c.loop-next.listing c.in-Some.at g n.number n.next (sym c.in_ok-listed.ensures) (listed_onward s c.in-Some.at n.number) in
    rw e f
