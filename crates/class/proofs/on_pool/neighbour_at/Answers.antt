-- Two reads, the record and its partner, and whether they have one x.
use Rattle.events.specs.Binary64.{at_binary64}
use Rattle.class.specs.OnPool.{neighbour_at}
use Rattle.class.proofs.on_pool.neighbour_at.Goals as goal

pub returns : goal.returns
unfolding neighbour_at at_binary64
returns c = rw (c.same_x.ensures, ← c.read_event-event.ensures, ← c.read_event-partner.ensures)
