-- The arrays, or else the places in use, decide.
use Rattle.records.specs.InUse.{overused}
use Rattle.records.proofs.in_use.is_overused.Goals as goal

pub returns-then-pool_refused : goal.returns-then-pool_refused
unfolding overused
returns-then-pool_refused c = rw (← c.pool_refused.ensures, c.if-pool_refused.true)

pub returns : goal.returns
unfolding overused
returns c = rw (← c.pool_refused.ensures, c.if-pool_refused.false)
