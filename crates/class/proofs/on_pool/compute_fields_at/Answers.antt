-- Two reads, the class, one store.
use Rattle.class.specs.OnPool.{classified_at}
use Rattle.class.proofs.on_pool.compute_fields_at.Goals as goal

pub returns : goal.returns
unfolding classified_at
returns c =
    rw (c.store_event.ensures, c.compute_fields-computed.ensures, c.lower_at-neighbour.ensures, c.read_event-event.ensures)
