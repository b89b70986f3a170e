use Rattle.std.proofs.Common.{rules}
use Rattle.text.specs.Held.{held}
use Rattle.transition_file.specs.Sets.{bit_in}
use Rattle.label_file.proofs.Masks.{value_at}
use Rattle.label_file.proofs.writing.mask_of.Goals as goal

pub returns : goal.returns
returns c =
    let e = value_at (bit_in (held c.args.known.now)) (held c.args.names.now) c.args.number in
    search rules
