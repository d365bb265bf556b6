-- Within the part its point, beyond it nothing.
use borrow.Author.Tests.{lt-ltb, le-ltb}
use Rattle.view.specs.View.{corner_at, point_at}
use Rattle.view.proofs.corner_at.Goals as goal

pub returns-then-i-points : goal.returns-then-i-points
unfolding corner_at point_at
returns-then-i-points c = rw (lt-ltb _ _ c.if-i-points.true)

pub returns : goal.returns
unfolding corner_at
returns c = rw (le-ltb _ _ c.if-i-points.false)
