-- Each return rewrites by the tests that led to it.
use Rattle.events.specs.Under.{under}
use Rattle.events.proofs.points.is_under.Goals as goal

pub returns-then-less_y-3 : goal.returns-then-less_y-3
unfolding under
returns-then-less_y-3 c =
    rw (← c.less_y.ensures, c.if-less_y.true, ← c.less_y-then-less_y.ensures, c.if-less_y-2.true, ← c.less_y-then-less_y-2.ensures, c.if-less_y-3.true, c.less_y-then-less_y-3.ensures)

pub returns-else-less_y-3 : goal.returns-else-less_y-3
unfolding under
returns-else-less_y-3 c =
    rw (← c.less_y.ensures, c.if-less_y.true, ← c.less_y-then-less_y.ensures, c.if-less_y-2.true, ← c.less_y-then-less_y-2.ensures, c.if-less_y-3.false)

pub returns-else-less_y-2 : goal.returns-else-less_y-2
unfolding under
returns-else-less_y-2 c =
    rw (← c.less_y.ensures, c.if-less_y.true, ← c.less_y-then-less_y.ensures, c.if-less_y-2.false)

pub returns-else-less_y : goal.returns-else-less_y
unfolding under
returns-else-less_y c = rw (← c.less_y.ensures, c.if-less_y.false)
