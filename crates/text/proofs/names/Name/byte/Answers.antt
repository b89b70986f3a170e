use Rattle.std.proofs.Common.{◌%◌, ◌*◌, ◌/◌, ◌^◌, slice_index, ap, ◌∙◌, arith}
use Rattle.text.proofs.Packs.{le_byte}
use Rattle.text.proofs.names.Name.byte.Goals as goal

pub returns : goal.returns
returns c =
    let k = c.args.i % 8 in
    ap (λ bytes. slice_index bytes k) c.to_le_bytes.ensures ∙ le_byte c.part.result k (omega arith) ∙ ap (λ n. n / 2 ^ (8 * k) % 256) c.part.ensures
