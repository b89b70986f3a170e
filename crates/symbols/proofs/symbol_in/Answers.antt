use Rattle.std.proofs.Common.{◌≡◌, ◌+◌, true, false, cond, drop, slice_index_or, sym, ap, ◌∙◌}
use Rattle.std.proofs.lemmas.List.{at_drop_more}
use Rattle.text.specs.Words.{same}
use Rattle.text.proofs.Runs.{same_pointwise}
use Rattle.symbols.specs.Symbols.{symbol_in}
use Rattle.symbols.proofs.symbol_in.Goals as goal

pub returns-then-eq : goal.returns-then-eq
returns-then-eq c =
    let es = c.args.entries.now in
    let w = c.args.word.now in
    let k = c.loop-spelling.spelling-index in
    let e = slice_index_or es k _ in
    let same_is : same w e.0.now ≡ true = sym (same_pointwise e.0.now w) ∙ sym c.eq.ensures ∙ c.if-eq.true in
    sym (ap (λ b. cond b e.1 (symbol_in (drop (k + 1) es) w)) same_is) ∙ sym (at_drop_more (λ xs. symbol_in xs w) es k _ c.loop-spelling-test.true) ∙ c.loop-spelling.invariant

pub loop-spelling-preserved : goal.loop-spelling-preserved
loop-spelling-preserved c =
    let es = c.args.entries.now in
    let w = c.args.word.now in
    let k = c.loop-spelling.spelling-index in
    let e = slice_index_or es k _ in
    let same_is : same w e.0.now ≡ false = sym (same_pointwise e.0.now w) ∙ sym c.eq.ensures ∙ c.if-eq.false in
    sym (ap (λ b. cond b e.1 (symbol_in (drop (k + 1) es) w)) same_is) ∙ sym (at_drop_more (λ xs. symbol_in xs w) es k _ c.loop-spelling-test.true) ∙ c.loop-spelling.invariant
