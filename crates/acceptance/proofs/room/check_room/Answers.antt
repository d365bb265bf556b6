-- The counts are of the result events and the result edges.
use Rattle.acceptance.specs.OnPool.{told_room}
use Rattle.acceptance.proofs.room.check_room.Goals as goal

pub returns : goal.returns
unfolding told_room
returns c = rw (← c.count_events-events.ensures, ← c.count_edges-edges.ensures, c.check_places.ensures)
