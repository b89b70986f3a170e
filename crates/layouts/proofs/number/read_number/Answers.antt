use Rattle.std.proofs.Common.{◌≡◌, ◌≤◌, min, length, drop, ap, ◌∙◌, arith, rules, length-take}
use Rattle.layouts.specs.Numbers.{digits}
use Rattle.layouts.proofs.Digits.{digits_few, worth_cut}
use Rattle.layouts.proofs.number.read_number.Goals as goal

pub slice_bounds-worth_of-end : goal.slice_bounds-worth_of-end
slice_bounds-worth_of-end c = omega (arith, c.count_few_digits-digits.ensures, digits_few c.rest_from-rest.result.now, length-take c.count_few_digits-digits.result c.rest_from-rest.result.now)

pub returns : goal.returns
returns c =
    let s = drop c.args.at c.args.text.now in
    let some = c.count_few_digits-digits.ensures ∙ ap (λ xs. min 5 (digits xs)) c.rest_from-rest.ensures in
    let few : c.count_few_digits-digits.result ≡ digits s = omega (arith, some, c.if-digits-gt-MOST_DIGITS.false) in
    let w = worth_cut s 0 in
    search rules
