use Rattle.std.proofs.Common.{◌+◌, ◌≤◌, length, refl, rules}
use Rattle.lexer.proofs.Found.{found_end, found_mark, found_none, found_long, found_word, word_inside}
use Rattle.lexer.proofs.next_token.Goals as goal

pub returns-then-start-text : goal.returns-then-start-text
returns-then-start-text c = found_end c.args.text.now c.args.at _ c.skip_blanks-start.ensures c.if-start-text.true

pub returns-in-Some : goal.returns-in-Some
returns-in-Some c = found_mark c.args.text.now c.args.at _ c.skip_blanks-start.ensures c.if-start-text.false _ c.in-Some.ensures

pub returns-then-not-is_start : goal.returns-then-not-is_start
returns-then-not-is_start c = found_none c.args.text.now c.args.at _ c.skip_blanks-start.ensures c.if-start-text.false c.in_default.ensures c.if-not-is_start.ensures

pub returns-then-len-ge-WORD_LIMIT : goal.returns-then-len-ge-WORD_LIMIT
returns-then-len-ge-WORD_LIMIT c =
    found_long c.args.text.now c.args.at _ c.skip_blanks-start.ensures c.if-start-text.false c.in_default.ensures c.if-not-is_start.ensures _ c.word_len-len.ensures c.if-len-ge-WORD_LIMIT.true

pub slice_bounds-result-end : goal.slice_bounds-result-end
slice_bounds-result-end c =
    let h : (c.skip_blanks-start.result + 1) + c.word_len-len.result ≤ length c.args.text.now = word_inside c.args.text.now _ _ c.if-start-text.false c.word_len-len.ensures in
    search rules

pub returns : goal.returns
returns c =
    found_word c.args.text.now c.args.at _ c.skip_blanks-start.ensures c.if-start-text.false c.in_default.ensures c.if-not-is_start.ensures _ c.word_len-len.ensures c.if-len-ge-WORD_LIMIT.false _ refl
