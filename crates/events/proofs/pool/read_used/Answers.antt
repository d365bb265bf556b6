-- Below the bound it is a read, beyond it a blank record.
use Rattle.std.proofs.Common.{le-ltb, lt-ltb}
use Rattle.events.specs.Pool.{stored}
use Rattle.events.specs.Store.{look}
use Rattle.events.proofs.pool.read_used.Goals as goal

pub returns-then-i-used : goal.returns-then-i-used
unfolding look stored
returns-then-i-used c = rw (lt-ltb _ _ c.if-i-used.true, c.read_event.ensures)

pub returns : goal.returns
unfolding look stored
returns c = rw (le-ltb _ _ c.if-i-used.false, c.blank_event.ensures)
