use Rattle.std.proofs.Common.{length, take, ap, ◌∙◌}
use Rattle.std.proofs.lemmas.List.{take_min}
use Rattle.layouts.specs.Numbers.{digits}
use Rattle.layouts.proofs.Digits.{digits_is, digits_front}
use Rattle.layouts.proofs.number.count_few_digits.Goals as goal

pub returns : goal.returns
returns c =
    let s = c.args.text.now in
    c.count_digits.ensures ∙ digits_is (take c.min-most.result s) ∙ ap (λ n. digits (take n s)) c.min-most.ensures ∙ ap digits (take_min 5 s) ∙ digits_front 5 s
