-- Each return rewrites by the test that led to it.
use Rattle.segments.specs.Segments.{less_if}
use Rattle.segments.proofs.less_if.Goals as goal

pub returns-then-condition : goal.returns-then-condition
unfolding less_if
returns-then-condition c = rw c.if-condition.true

pub returns-else-condition : goal.returns-else-condition
unfolding less_if
returns-else-condition c = rw c.if-condition.false
