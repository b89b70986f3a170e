use Rattle.std.proofs.Common.{◌≡◌, ◌+◌, ◌<◌, length, get_or, set, replicate, refl, sym, ◌∙◌, subst, inl, inr, arith}
use Rattle.std.proofs.lemmas.Iterator.{YieldsList-from_slice, YieldsList-from_take}
use Rattle.std.proofs.lemmas.Iterator.Consumers.{YieldsList-at, YieldsList-from_enumerate, YieldsList-turn}
use Rattle.std.proofs.lemmas.List.{length_push, length-set}
use Rattle.systems.specs.Limits.{max_states}
use Rattle.tables.specs.Spans.{nowhere, grown, Spanned}
use Rattle.tables.proofs.Growing.{nowhere_is, turn_at, spanned_none, spanned_more_yes, spanned_more_no}
use Rattle.tables.proofs.spanned.spans_of.Goals as goal
use Rattle.tables.proofs.spanned.spans_of.Goals.{else-r-states-via-then-r-states+else-r-states-2, else-r-states-via-else-r-states}

pub loop-k-init : goal.loop-k-init
loop-k-init c = record { whole = refl; spanned = subst (λ s. Spanned c.states-states.result 0 c.args.records.now (replicate max_states s)) (sym (nowhere_is c.default-spans.result c.default-spans.ensures.0 c.default-spans.ensures.1.0 c.default-spans.ensures.1.1)) (spanned_none c.states-states.result c.args.records.now max_states) }

pub loop-k-preserved-then-r-states-2 : goal.loop-k-preserved-then-r-states-2
loop-k-preserved-then-r-states-2 c =
    let road = YieldsList-from_enumerate (YieldsList-at c.enumerate-k-items.ensures.source (YieldsList-from_take c.moves.result (YieldsList-at c.take.ensures.source (YieldsList-from_slice c.args.records.now c.iter.ensures.rest)) c.take.ensures.count)) c.enumerate-k-items.ensures.count in
    let t = YieldsList-turn (YieldsList-at c.into_iter-k-iterator.ensures.into_iter_gives road) c.loop-k.yielded _ c.loop-k.yielded_by _ _ (c.in-Some.k, c.in-Some.r) c.in-Some.is c.next.ensures.steps in
    let turn = turn_at c.args.records.now c.moves.result (length c.loop-k.yielded) c.in-Some.k c.in-Some.r.now t.0 t.1 in
    let states = c.states-states.result in
    let records = c.args.records.now in
    let spans = c.loop-k.spans in
    let n = length c.loop-k.yielded in
    let r = c.in-Some.r.now in
    let q = c.from-q.result in
    let e : q ≡ r.source = c.from-q.ensures in
    let fits : r.source < length spans = omega (arith, c.loop-k.invariant.whole) in
    let one : c.grown.result ≡ grown (get_or spans r.source nowhere) n = c.grown.ensures ∙ (λ i. grown (get_or spans (e i) nowhere) (turn.place i)) in
    let is : set spans q c.grown.result ≡ set spans r.source (grown (get_or spans r.source nowhere) n) = λ i. set spans (e i) (one i) in
    record {
      whole = length-set spans q _ ∙ c.loop-k.invariant.whole;
      spanned = subst (λ m. Spanned states m records (set spans q c.grown.result)) (sym (length_push c.loop-k.yielded (c.in-Some.k, c.in-Some.r)))
          (subst (Spanned states (n + 1) records) (sym is)
          (spanned_more_yes states n records spans r turn.within c.loop-k.invariant.spanned r turn.is c.if-r-states.true c.if-r-states-2.true fits));
    }

pub loop-k-preserved : goal.loop-k-preserved
loop-k-preserved c =
    let road = YieldsList-from_enumerate (YieldsList-at c.enumerate-k-items.ensures.source (YieldsList-from_take c.moves.result (YieldsList-at c.take.ensures.source (YieldsList-from_slice c.args.records.now c.iter.ensures.rest)) c.take.ensures.count)) c.enumerate-k-items.ensures.count in
    let t = YieldsList-turn (YieldsList-at c.into_iter-k-iterator.ensures.into_iter_gives road) c.loop-k.yielded _ c.loop-k.yielded_by _ _ (c.in-Some.k, c.in-Some.r) c.in-Some.is c.next.ensures.steps in
    let turn = turn_at c.args.records.now c.moves.result (length c.loop-k.yielded) c.in-Some.k c.in-Some.r.now t.0 t.1 in
    let more = length_push c.loop-k.yielded (c.in-Some.k, c.in-Some.r) in
    record {
      whole = c.loop-k.invariant.whole;
      spanned = subst (λ n. Spanned c.states-states.result n c.args.records.now c.loop-k.spans) (sym more)
          (spanned_more_no c.states-states.result (length c.loop-k.yielded) c.args.records.now c.loop-k.spans c.in-Some.r.now turn.within c.loop-k.invariant.spanned c.in-Some.r.now turn.is
          (elim c.else-r-states.branch [
            | else-r-states-via-then-r-states+else-r-states-2 v ↦ inr v.if-r-states-2.false
            | else-r-states-via-else-r-states v ↦ inl v.if-r-states.false
          ]));
    }
