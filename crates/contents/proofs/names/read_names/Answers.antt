use Rattle.std.proofs.Common.{suc, length, Some, sym, ap, arith}
use Rattle.std.specs.Option.{option_map}
use Rattle.std.proofs.lemmas.Result.{err_from_is_err_and}
use Rattle.layouts.specs.Layouts.{item_at}
use Rattle.layouts.proofs.Items.{item_onward}
use Rattle.text.specs.Held.{held}
use Rattle.contents.specs.NamesLine.{accepted, item_of}
use Rattle.contents.proofs.Folds.{folding, sofar_fault, sofar_more}
use Rattle.contents.proofs.names.read_names.Goals as goal

pub loop-next-init : goal.loop-next-init
loop-next-init c =
    let s = c.args.line.now in
    record { turns = suc (length s); many = omega arith; comes = ap (λ h. folding accepted (item_at s) (Some h) (suc (length s)) 0) (sym c.new.ensures) }

pub returns-in_err-item : goal.returns-in_err-item
returns-in_err-item c =
    let s = c.args.line.now in
    let p = err_from_is_err_and c.from_residual.result c.from_residual.ensures.1 in
    let g = rw c.in-Some.is at c.loop-next.invariant in
    let f = sofar_fault accepted (item_at s) s _ _ c.in-Some.at g _ (sym c.in_err-item.ensures) in
    rw (p.1, p.2) (sym f)

pub loop-next-preserved : goal.loop-next-preserved
loop-next-preserved c =
    let s = c.args.line.now in
    let it = c.in_ok-item.item in
    let g = rw c.in-Some.is at c.loop-next.invariant in
    let f = sofar_more accepted (item_at s) s _ (option_map held c.loop-next.found) c.in-Some.at g (item_of it) it.next (sym c.in_ok-item.ensures) (item_onward s c.in-Some.at (item_of it)) in
    rw c.accept-found.ensures f
