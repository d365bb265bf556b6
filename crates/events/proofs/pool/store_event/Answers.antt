-- Each array gets its row.
use Rattle.events.specs.Pool.{store}
use Rattle.events.proofs.pool.store_event.Goals as goal

pub returns : goal.returns
unfolding store
returns c = rw (c.put_marks_over.ensures, c.put_point.ensures, ← c.point_of.ensures)
