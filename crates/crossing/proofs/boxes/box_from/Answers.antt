-- Each return rewrites by the tests that led to it.
use Rattle.crossing.specs.Boxes.{box_from}
use Rattle.crossing.proofs.boxes.box_from.Goals as goal

pub returns-then-start-end-2 : goal.returns-then-start-end-2
unfolding box_from
returns-then-start-end-2 c = rw (c.if-start-end.true, c.if-start-end-2.true)

pub returns-else-start-end-2 : goal.returns-else-start-end-2
unfolding box_from
returns-else-start-end-2 c = rw (c.if-start-end.true, c.if-start-end-2.false)

pub returns-else-start-end : goal.returns-else-start-end
unfolding box_from
returns-else-start-end c = rw c.if-start-end.false
