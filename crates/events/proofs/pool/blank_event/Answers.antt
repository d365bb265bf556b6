-- A fresh end at zero.
use Rattle.events.specs.Pool.{blank}
use Rattle.events.proofs.pool.blank_event.Goals as goal

pub returns : goal.returns
unfolding blank
returns c = c.fresh_event.ensures
