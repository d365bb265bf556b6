-- Without the space there is no number; after it the digits decide.
use mathlib.Core.Path.{sym, ◌∙◌}
use Rattle.sheet.proofs.Lines.{number-none, number_read}
use Rattle.sheet.proofs.edges.read_number.Goals as goal

pub returns-then-has_word : goal.returns-then-has_word
returns-then-has_word c = number_read c.args.s.now c.args.at _ _ (sym c.has_word.ensures ∙ c.if-has_word.true) c.after.ensures c.read_hex.ensures

pub returns : goal.returns
returns c = number-none c.args.s.now c.args.at (sym c.has_word.ensures ∙ c.if-has_word.false)
