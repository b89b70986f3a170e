use Rattle.std.proofs.Common.{map, encode_utf8_all, ap, rules, arith}
use Rattle.std.specs.List.{range_with_len}
use Rattle.std.proofs.Output.{has_written_append, has_written_of_eq}
use Rattle.text.specs.Names.{byte_of}
use Rattle.text.proofs.Shown.{shown_more}
use Rattle.text.proofs.names.NameDisplay.fmt.Goals as goal

pub loop-i-preserved : goal.loop-i-preserved
loop-i-preserved g c = λ plain.
    has_written_of_eq _ _ _ _ _ (shown_more (byte_of c.args.self.now) c.loop-i.i)
    (has_written_append _ _ _ _ _ _ (c.loop-i.invariant plain) (search rules))

pub returns-clause-writes : goal.returns-clause-writes
returns-clause-writes g c = λ plain _.
    has_written_of_eq _ _ _ _ _ (ap (λ k. encode_utf8_all (map (byte_of c.args.self.now) (range_with_len 0 k))) (omega (arith, c.loop-i-test.false, c.loop-i.auto.i-end, c.len-i-end.ensures)))
    (c.loop-i.invariant plain)
