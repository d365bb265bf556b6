-- Each return rewrites by the tests that led to it.
use Rattle.class.specs.Class.{below_above}
use Rattle.class.proofs.below_above.Goals as goal

pub returns-then-lower : goal.returns-then-lower
unfolding below_above
returns-then-lower c = rw c.if-lower.true

pub returns-then-is_in_result : goal.returns-then-is_in_result
unfolding below_above
returns-then-is_in_result c = rw (c.if-lower.false, ← c.is_in_result.ensures, c.if-is_in_result.true)

pub returns : goal.returns
unfolding below_above
returns c = rw (c.if-lower.false, ← c.is_in_result.ensures, c.if-is_in_result.false)
