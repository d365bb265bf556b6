-- The first of the four lines that stands in front.
use mathlib.Core.Path.{sym, ◌∙◌}
use Rattle.text.specs.Quoted.{quoted}
use Rattle.sheet.specs.Sheet.{operation_line, operation_word}
use Rattle.sheet.proofs.Lines.{intersection-line, union-line, difference-line, xor-line, no-operation}
use Rattle.sheet.proofs.operations.read_operation.Goals as goal

pub returns-then-has_word : goal.returns-then-has_word
unfolding operation_line operation_word quoted
returns-then-has_word c = intersection-line _ _ (sym c.has_word.ensures ∙ c.if-has_word.true) c.after.ensures

pub returns-then-has_word-2 : goal.returns-then-has_word-2
unfolding operation_line operation_word quoted
returns-then-has_word-2 c = union-line _ _ (sym c.has_word.ensures ∙ c.if-has_word.false) (sym c.has_word-2.ensures ∙ c.if-has_word-2.true) c.after-then-has_word-2.ensures

pub returns-then-has_word-3 : goal.returns-then-has_word-3
unfolding operation_line operation_word quoted
returns-then-has_word-3 c = difference-line _ _ (sym c.has_word.ensures ∙ c.if-has_word.false) (sym c.has_word-2.ensures ∙ c.if-has_word-2.false) (sym c.has_word-3.ensures ∙ c.if-has_word-3.true) c.after-then-has_word-3.ensures

pub returns-then-has_word-4 : goal.returns-then-has_word-4
unfolding operation_line operation_word quoted
returns-then-has_word-4 c = xor-line _ _ (sym c.has_word.ensures ∙ c.if-has_word.false) (sym c.has_word-2.ensures ∙ c.if-has_word-2.false) (sym c.has_word-3.ensures ∙ c.if-has_word-3.false) (sym c.has_word-4.ensures ∙ c.if-has_word-4.true) c.after-then-has_word-4.ensures

pub returns : goal.returns
unfolding operation_line operation_word quoted
returns c = no-operation _ 0 (sym c.has_word.ensures ∙ c.if-has_word.false) (sym c.has_word-2.ensures ∙ c.if-has_word-2.false) (sym c.has_word-3.ensures ∙ c.if-has_word-3.false) (sym c.has_word-4.ensures ∙ c.if-has_word-4.false)
