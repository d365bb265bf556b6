-- Each return rewrites by the test that led to it.
use Rattle.events.specs.Coordinates.{same}
use Rattle.events.proofs.points.same_point.Goals as goal

pub returns-then-same_x : goal.returns-then-same_x
unfolding same
returns-then-same_x c = rw (← c.same_x.ensures, c.if-same_x.true, c.same_y.ensures)

pub returns : goal.returns
unfolding same
returns c = rw (← c.same_x.ensures, c.if-same_x.false)
