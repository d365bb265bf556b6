-- The array holds the position, or the point of a blank record is read.
use borrow.Author.Tests.{lt-ltb, le-ltb}
use Rattle.events.specs.Pool.{blank}
use Rattle.rows.specs.Rows.{point_in, point_of, void}
use Rattle.rows.proofs.point_at.Goals as goal

pub returns-then-i-at : goal.returns-then-i-at
unfolding point_in point_of
returns-then-i-at c = rw (lt-ltb _ _ c.if-i-at.true)

pub returns : goal.returns
unfolding point_in void blank
returns c = rw (le-ltb _ _ c.if-i-at.false)
