-- Field by field, the codes by their functions.
use Rattle.events.specs.Pool.{event_of}
use Rattle.events.proofs.pool.event_of.Goals as goal

pub returns : goal.returns
unfolding event_of
returns c = rw (c.link_of-2.ensures, c.transition_of.ensures, c.edge_type_of.ensures, c.link_of.ensures)
