-- Both records are read before either is stored.
use Rattle.events.specs.Pool.{stored}
use Rattle.neighbours.specs.Neighbours.{coincided}
use Rattle.neighbours.proofs.overlap.coincide.Goals as goal

pub returns : goal.returns
unfolding coincided stored
returns c =
    rw (c.store_event-2.ensures, c.with_type-2.ensures, c.store_event.ensures, c.with_type.ensures, c.type_by-told.ensures, c.read_used-second.ensures, c.read_used-first.ensures)
