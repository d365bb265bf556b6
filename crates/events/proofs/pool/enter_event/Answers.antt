-- Each array gets its row.
use Rattle.events.specs.Pool.{enter}
use Rattle.events.proofs.pool.enter_event.Goals as goal

pub returns : goal.returns
unfolding enter
returns c = rw (c.put_marks.ensures, c.put_point.ensures, ← c.point_of.ensures, ← c.marks_of.ensures)
