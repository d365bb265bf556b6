-- Each return rewrites by the tests that led to it, which bound the word.
use Rattle.std.proofs.Common.{sym, ◌∙◌, arith}
use Rattle.events.specs.Runs.{at_most_words}
use Rattle.events.proofs.Runs.{above_zero_lem, below-zero}
use Rattle.events.proofs.points.at_most_x.Goals as goal

pub overflow_add-result : goal.overflow_add-result
overflow_add-result c = omega (arith, above_zero_lem _ (sym c.is_above_zero.ensures ∙ c.if-is_above_zero.true))

pub overflow_add-result-then-is_above_zero : goal.overflow_add-result-then-is_above_zero
overflow_add-result-then-is_above_zero c = omega (arith, above_zero_lem _ (sym c.is_above_zero.ensures ∙ c.if-is_above_zero.true))

pub returns-then-is_above_zero : goal.returns-then-is_above_zero
unfolding at_most_words
returns-then-is_above_zero c = rw (← c.is_above_zero.ensures, c.if-is_above_zero.true)

pub overflow_sub-result : goal.overflow_sub-result
overflow_sub-result c = omega (arith, below-zero _ (sym c.is_below_zero.ensures ∙ c.if-is_below_zero.true))

pub returns-then-is_below_zero : goal.returns-then-is_below_zero
unfolding at_most_words
returns-then-is_below_zero c = rw (← c.is_above_zero.ensures, c.if-is_above_zero.false, ← c.is_below_zero.ensures, c.if-is_below_zero.true)

pub returns : goal.returns
unfolding at_most_words
returns c = rw (← c.is_above_zero.ensures, c.if-is_above_zero.false, ← c.is_below_zero.ensures, c.if-is_below_zero.false)
