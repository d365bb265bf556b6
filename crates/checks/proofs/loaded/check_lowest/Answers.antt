-- The lowest record with the fault decides.
use Rattle.events.specs.Pool.{pool}
use Rattle.checks.specs.OnPool.{strikes}
use Rattle.checks.proofs.Lowest.{told-lowest, told_none}
use Rattle.checks.proofs.loaded.check_lowest.Goals as goal

pub returns-then-r-n : goal.returns-then-r-n
returns-then-r-n c =
    let a = c.args in
    told-lowest
    (strikes (pool a.points.now a.marks.now) a.n a.fault)
    _
    _
    _
    c.lowest_struck-r.ensures
    c.if-r-n.true
    c.reason_of.ensures
    c.place_of.ensures

pub returns : goal.returns
returns c = told_none _ _ _ _ c.lowest_struck-r.ensures c.if-r-n.false
