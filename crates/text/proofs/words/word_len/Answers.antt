use Rattle.std.proofs.Common.{◌≡◌, ◌-◌, length, drop, ◌∙◌, rules, refl, arith}
use Rattle.std.specs.List.{range_with_len}
use Rattle.std.proofs.lemmas.Iterator.{YieldsList-from_range}
use Rattle.std.proofs.lemmas.Iterator.Search.{YieldsList-from_take_while}
use Rattle.std.proofs.lemmas.Iterator.Consumers.{count_from_yields_List}
use Rattle.std.proofs.lemmas.List.Folds.{length-prefix_len}
use Rattle.text.specs.Words.{goes_on, word_len}
use Rattle.text.proofs.Runs.{prefix_run}
use Rattle.text.proofs.words.word_len.Goals as goal

pub returns : goal.returns
returns c =
    let s = c.args.text.now in
    let counted : c.count.result ≡ word_len (drop c.args.at s) =
    count_from_yields_List c.take_while.result c.count.result c.count.ensures.ran
    (YieldsList-from_take_while _ (λ i. goes_on (drop i s)) (YieldsList-from_range c.args.at (length s) (length s - c.args.at) (search rules) refl) c.take_while.ensures.closure c.take_while.ensures.done (λ x b q k. search rules))
    ∙ length-prefix_len (λ i. goes_on (drop i s)) (range_with_len c.args.at (length s - c.args.at))
    ∙ prefix_run s c.args.at (length s - c.args.at) (omega arith) in
    search rules
