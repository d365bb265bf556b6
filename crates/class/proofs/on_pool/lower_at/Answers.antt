-- The link that was matched picks the neighbour.
use Rattle.class.specs.OnPool.{lower_at}
use Rattle.class.proofs.on_pool.lower_at.Goals as goal

pub returns-in-None : goal.returns-in-None
unfolding lower_at
returns-in-None c = rw c.in-None.is

pub returns-in-Some : goal.returns-in-Some
unfolding lower_at
returns-in-Some c = rw (c.in-Some.is, c.neighbour_at.ensures)
