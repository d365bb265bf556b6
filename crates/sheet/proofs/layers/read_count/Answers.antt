-- The word, and the count after it.
use mathlib.Core.Path.{sym, ◌∙◌}
use Rattle.sheet.proofs.Lines.{count_word, counting}
use Rattle.sheet.proofs.layers.read_count.Goals as goal

pub returns-then-not-has_word : goal.returns-then-not-has_word
returns-then-not-has_word c =
    let args = c.args in
    count_word args.s.now args.word.now args.at args.most (sym c.has_word.ensures ∙ c.if-not-has_word.true)

pub returns : goal.returns
returns c =
    let args = c.args in
    c.count_from.ensures
    ∙ counting args.s.now args.word.now args.at args.most (sym c.has_word.ensures ∙ c.if-not-has_word.false) _ c.after-digits.ensures _ c.numeral.ensures
