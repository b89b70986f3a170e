use Rattle.std.proofs.Common.{map, ◌∙◌, ap}
use Rattle.std.proofs.lemmas.List.{set-get_or}
use Rattle.text.specs.Held.{held}
use Rattle.transition_file.specs.TransitionPart.{arrows_of}
use Rattle.transition_file.specs.Records.{record_in, line_record}
use Rattle.transition_file.proofs.Written.{begin, no_more, full, one_more, records_are}
use Rattle.transition_file.proofs.writing.write_transitions.Goals as goal

pub loop-record-init : goal.loop-record-init
loop-record-init c =
    begin _ _ _ (ap (map (λ r. line_record (held c.args.known.now) r.text)) c.body_lines-lines.ensures ∙ records_are (held c.args.known.now) c.args.file.now)

pub returns-in_default : goal.returns-in_default
returns-in_default c =
    set-get_or _ _ _ ∙ no_more _ _ _ _ _ c.loop-record.invariant (ap (map (λ r. line_record (held c.args.known.now) r.text)) c.in_default.ensures.steps.0)

pub loop-record-preserved : goal.loop-record-preserved
loop-record-preserved c =
    let known = held c.args.known.now in
    let values = map (record_in known) (arrows_of c.args.file.now) in
    let e = ap (map (λ r. line_record known r.text)) c.in-Some.ensures.steps in
    let f = one_more values c.args.records.now c.loop-record.records c.loop-record.record-index _ c.loop-record.invariant _ _ e c.loop-record-test.true in
    rw c.record_of.ensures f

pub returns : goal.returns
returns c = full _ _ _ _ _ c.loop-record.invariant c.loop-record-test.false
