-- The sizes of the pool, then its room.
use borrow.Author.Tests.{lt-ltb, le-ltb}
use Rattle.loading.specs.OnPool.{pool_sized}
use Rattle.loading.proofs.check.check_pool.Goals as goal

pub returns-then-pool_refused : goal.returns-then-pool_refused
unfolding pool_sized
returns-then-pool_refused c = rw (c.refused.ensures, ← c.pool_refused.ensures, c.if-pool_refused.true)

pub returns-then-points-ends : goal.returns-then-points-ends
unfolding pool_sized
returns-then-points-ends c =
    rw (c.refused-then-points-ends.ensures, ← c.pool_refused.ensures, c.if-pool_refused.false, lt-ltb _ _ c.if-points-ends.true)

pub returns : goal.returns
unfolding pool_sized
returns c = rw (← c.pool_refused.ensures, c.if-pool_refused.false, le-ltb _ _ c.if-points-ends.false)
