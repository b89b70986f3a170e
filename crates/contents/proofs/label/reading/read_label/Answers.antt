use Rattle.std.proofs.Common.{◌<◌, ◌++◌, length-append, [], ◌∷◌, map, eqb, Some, rules, sym, ap, ◌∙◌, ◌≡◌, ◌≤◌, length, arith}
use borrow.Author.Tests.{tests}
use Rattle.std.proofs.lemmas.List.{map-append}
use lib.ListN.{length-map}
use Rattle.std.proofs.lemmas.Iterator.Splits.{YieldsList-from_slice_split}
use Rattle.std.proofs.lemmas.Iterator.Consumers.{YieldsList-so_far, YieldsList-turn, YieldsList-end}
use Rattle.lists.specs.Items.{items}
use Rattle.contents.specs.Labels.{all_named, label_limit}
use Rattle.contents.proofs.Pieces.{not_i, named_more, all_read, bytes_too_many, piece_unlawful, piece_too_many}
use Rattle.contents.proofs.label.reading.read_label.Goals as goal

pub returns-in_err-new : goal.returns-in_err-new
returns-in_err-new c =
    let s = c.args.label.now in
    let ys = map (λ p. p.now) c.loop-piece.yielded in
    let n : length ys ≡ length c.loop-piece.yielded = length-map c.loop-piece.yielded (λ p. p.now) in
    let turn = YieldsList-turn (YieldsList-from_slice_split {s = c.into_iter-piece-iterator.result} _ (λ b. eqb b 59) c.args.label.now (search rules) (search rules) (search rules) (λ x b q k. search (rules, tests))) c.loop-piece.yielded _ c.loop-piece.yielded_by _ _ _ c.in-Some.is c.next.ensures.steps in
    let so_far = YieldsList-so_far (YieldsList-from_slice_split {s = c.into_iter-piece-iterator.result} _ (λ b. eqb b 59) c.args.label.now (search rules) (search rules) (search rules) (λ x b q k. search (rules, tests))) c.loop-piece.yielded _ c.loop-piece.yielded_by in
    rw c.from_residual.ensures (sym (piece_unlawful s (not_i s _ c.as_slice.ensures c.if-eq.ensures) ys _ c.loop-piece.invariant.2 c.in-Some.piece.now
    (rw n so_far) (rw n turn.0) (rw n turn.1) c.in_err-new.ensures))

pub loop-piece-preserved : goal.loop-piece-preserved
loop-piece-preserved c =
    let longer : items c.push.new.self ≡ items c.loop-piece.names ++ c.in_ok-new.field-0 ∷ [] = search rules in
    let room : length (items c.loop-piece.names) < label_limit = search rules in (
      search rules,
      tt,
      ap all_named (map-append (λ p. p.now) c.loop-piece.yielded (c.in-Some.piece ∷ []))
          ∙ named_more (map (λ p. p.now) c.loop-piece.yielded) c.in-Some.piece.now _ _ c.loop-piece.invariant.2 c.in_ok-new.ensures
          ∙ ap Some (sym longer),
      omega (arith, ap length longer, length-append (items c.loop-piece.names) (c.in_ok-new.field-0 ∷ []), room),
    )

pub returns-in_err-ok : goal.returns-in_err-ok
returns-in_err-ok c =
    let s = c.args.label.now in
    let full : label_limit ≤ length (items c.loop-piece.names) = search rules in
    let ys = map (λ p. p.now) c.loop-piece.yielded in
    let n : length ys ≡ length c.loop-piece.yielded = length-map c.loop-piece.yielded (λ p. p.now) in
    let turn = YieldsList-turn (YieldsList-from_slice_split {s = c.into_iter-piece-iterator.result} _ (λ b. eqb b 59) c.args.label.now (search rules) (search rules) (search rules) (λ x b q k. search (rules, tests))) c.loop-piece.yielded _ c.loop-piece.yielded_by _ _ _ c.in-Some.is c.next.ensures.steps in
    let so_far = YieldsList-so_far (YieldsList-from_slice_split {s = c.into_iter-piece-iterator.result} _ (λ b. eqb b 59) c.args.label.now (search rules) (search rules) (search rules) (λ x b q k. search (rules, tests))) c.loop-piece.yielded _ c.loop-piece.yielded_by in
    rw c.from_residual-in_err-ok.ensures (sym (piece_too_many s (not_i s _ c.as_slice.ensures c.if-eq.ensures) ys _ c.loop-piece.invariant.2 c.in-Some.piece.now
    (rw n so_far) (rw n turn.0) (rw n turn.1) full))

pub returns-then-label-gt-MOST_BYTES : goal.returns-then-label-gt-MOST_BYTES
returns-then-label-gt-MOST_BYTES c = sym (bytes_too_many c.args.label.now (not_i c.args.label.now _ c.as_slice.ensures c.if-eq.ensures) (search rules))

pub returns : goal.returns
returns c =
    let s = c.args.label.now in
    let end = YieldsList-end (YieldsList-from_slice_split {s = c.into_iter-piece-iterator.result} _ (λ b. eqb b 59) c.args.label.now (search rules) (search rules) (search rules) (λ x b q k. search (rules, tests))) c.loop-piece.yielded _ c.loop-piece.yielded_by _ _ c.in-None.is c.next.ensures.steps in
    sym (all_read s (not_i s _ c.as_slice.ensures c.if-eq.ensures) _ _ c.loop-piece.invariant.2 end.0 c.loop-piece.invariant.3)
