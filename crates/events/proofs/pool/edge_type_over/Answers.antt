-- By the numbers of what the mark says and what it should.
use Rattle.events.specs.Pool.{over}
use Rattle.events.proofs.pool.edge_type_over.Goals as goal

pub returns : goal.returns
unfolding over
returns c = rw (← c.edge_type_of.ensures, ← c.number_of_edge_type.ensures, ← c.number_of_edge_type-2.ensures) c.kept_or.ensures
