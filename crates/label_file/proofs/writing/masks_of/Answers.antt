use Rattle.std.proofs.Common.{◌-◌, ◌++◌, replicate, ap, ◌∙◌, get_or, refl, rules, arith}
use lib.ListN.{length-map}
use Rattle.text.specs.Held.{held}
use Rattle.transition_file.specs.Sets.{bit_in}
use Rattle.label_file.specs.LabelPart.{masks}
use Rattle.label_file.proofs.Masks.{padded}
use Rattle.text.proofs.Made.{made_at}
use Rattle.label_file.proofs.writing.masks_of.Goals as goal

pub returns : goal.returns
returns c =
    let t = c.args.names.now in
    let ms = masks (held c.args.known.now) (held t) in
    let i = c.from_fn.ensures.items in
    padded ms c.from_fn.result 64 i.long (omega (arith, length-map (held t) (bit_in (held c.args.known.now)), t.within))
    (λ k h. made_at _ _ (λ j. get_or ms j 0) (λ x r q l. search rules) _ refl c.from_fn.result 0 64 i.each k k (omega arith) h)
    ∙ ap (λ n. ms ++ replicate (64 - n) 0) (length-map (held t) (bit_in (held c.args.known.now)))
