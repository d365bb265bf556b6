-- Each return rewrites by the tests that led to it.
use Rattle.events.specs.Coordinates.{ahead}
use Rattle.events.proofs.points.is_ahead.Goals as goal

pub returns-then-less_x : goal.returns-then-less_x
unfolding ahead
returns-then-less_x c = rw (← c.less_x.ensures, c.if-less_x.true)

pub returns-then-less_x-2 : goal.returns-then-less_x-2
unfolding ahead
returns-then-less_x-2 c = rw (← c.less_x.ensures, c.if-less_x.false, ← c.less_x-2.ensures, c.if-less_x-2.true)

pub returns : goal.returns
unfolding ahead
returns c = rw (← c.less_x.ensures, c.if-less_x.false, ← c.less_x-2.ensures, c.if-less_x-2.false, c.less_y.ensures)
