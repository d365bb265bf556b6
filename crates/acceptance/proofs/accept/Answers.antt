-- 1 is decided by the sizes, and the rest in the places for such a pool.
use native.Mathlib.Omega.{arith}
use Rattle.acceptance.proofs.Accepting.{within-limit, list-refused, pool-refused, accepts}
use Rattle.acceptance.proofs.accept.Goals as goal

pub returns-then-list-gt-MAX_EVENTS : goal.returns-then-list-gt-MAX_EVENTS
returns-then-list-gt-MAX_EVENTS c = list-refused _ _ _ _ _ c.if-list-gt-MAX_EVENTS.true

pub returns-then-pool_refused : goal.returns-then-pool_refused
returns-then-pool_refused c = pool-refused _ _ _ _ _ c.if-list-gt-MAX_EVENTS.false c.pool_refused.ensures c.if-pool_refused.true

pub returns-then-points-le-FEW : goal.returns-then-points-le-FEW
returns-then-points-le-FEW c =
    accepts _ _ _ _ _ c.if-list-gt-MAX_EVENTS.false c.pool_refused.ensures c.if-pool_refused.false c.check_of.ensures

pub check_of-requires-2 : goal.check_of-requires-2
check_of-requires-2 c =
    (within-limit _ _ c.pool_refused.ensures c.if-pool_refused.false, omega arith)

pub returns : goal.returns
returns c =
    accepts _ _ _ _ _ c.if-list-gt-MAX_EVENTS.false c.pool_refused.ensures c.if-pool_refused.false c.check_of-2.ensures
