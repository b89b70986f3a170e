use Rattle.std.proofs.Common.{◌≡◌, length, take, sym, ap, ◌∙◌, subst, arith, rules}
use lib.ListN.{length-map}
use Rattle.std.proofs.lemmas.List.{take_at}
use Rattle.transition_file.specs.Sets.{bit_in}
use Rattle.text.specs.Held.{held}
use Rattle.label_file.specs.LabelPart.{masks, labels_at}
use Rattle.label_file.specs.Found.{Changed}
use Rattle.transition_file.specs.TransitionPart.{body}
use Rattle.loading.proofs.Facts.{told, states_few, starts}
use Rattle.loading.proofs.Assembled.{loaded_all, fits_records, fits_sets, left, leaves}
use Rattle.loading.proofs.shape.loading.load.Goals as goal

pub of-requires-2-clause-few : goal.of-requires-2-clause-few
of-requires-2-clause-few c = states_few _ (told c.args.files.transitions.now (held c.args.vocabulary.now.events) _ c.in_ok-read.ensures.0).fit

pub of-requires-2-clause-starts : goal.of-requires-2-clause-starts
of-requires-2-clause-starts c = starts _ (told c.args.files.transitions.now (held c.args.vocabulary.now.events) _ c.in_ok-read.ensures.0).fit

pub returns : goal.returns
returns c =
    let ts = c.args.files.transitions.now in
    let ls = c.args.files.labels.now in
    let h = c.in_ok-read.read.header in
    let r = c.in_ok-read.ensures in
    let l = c.in_ok-listed.ensures in
    let names = held c.in_ok-listed.listed.names in
    let rs = c.args.records.now in
    let ss = c.args.sets.now in
    let fit = sym c.if-not-tables_fit.ensures in
    let size : c.len.result ≡ length names = omega (arith, c.len.ensures) in
    let known = held c.in_ok-listed.listed.propositions in
    let ms = ap (λ n. take n c.masks_of-masks.result) size ∙ ap (take (length names)) c.masks_of-masks.ensures ∙ take_at (masks known names) _ (length names) (length-map names (bit_in known)) in
    let n : c.from-states.result ≡ h.states = search rules in
    let marked = subst (λ k. Changed (λ q _. labels_at (take c.len.result c.masks_of-masks.result) (body ls) q) k ss c.write_labels.new.sets) n c.write_labels.ensures in
    let f = left ts ls _ _ h names _ _ rs _ ss _ _ r.0 r.1 l.0 l.1 (fits_records h (length rs) (length ss) fit) (fits_sets h (length rs) (length ss) fit) c.write_transitions.ensures ms marked in (
      record { header = h; names = names },
      loaded_all ts ls _ _ (length rs) (length ss) h r.0 names l.0 fit,
      leaves ts ls _ _ _ _ rs _ ss _ (record { header = h; names = names }) _ f r.1 l.1 c.of.ensures c.of-2.ensures.states c.of-2.ensures.initial c.of-2.ensures.moves,
    )
