use Rattle.std.proofs.Common.{◌+◌, length, drop, ap, ◌∙◌}
use Rattle.std.specs.List.{take_while}
use Rattle.lexer.specs.Tokens.{is_blank}
use Rattle.lexer.proofs.Found.{blanks_is}
use Rattle.lexer.proofs.skip_blanks.Goals as goal

pub returns : goal.returns
returns c =
    let s = c.args.text.now in
    ap (λ n. c.args.at + n) (c.count_blanks.ensures ∙ ap (λ xs. length (take_while is_blank xs)) c.rest_from.ensures ∙ blanks_is (drop c.args.at s))
