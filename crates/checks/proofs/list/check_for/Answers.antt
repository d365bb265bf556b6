-- Each check that passes hands on to the next.
use Rattle.std.proofs.lemmas.Result.{err_from_is_err_and}
use Rattle.checks.specs.Checks.{and_then, sized}
use Rattle.checks.specs.OnPool.{checked_for}
use Rattle.checks.proofs.list.check_for.Goals as goal

pub returns-then-pool_refused : goal.returns-then-pool_refused
unfolding checked_for sized and_then
returns-then-pool_refused c = rw (← c.pool_refused.ensures, c.if-pool_refused.true)

pub returns-in_err-check_fault : goal.returns-in_err-check_fault
unfolding checked_for sized and_then
returns-in_err-check_fault c =
    let p = err_from_is_err_and c.from_residual.result c.from_residual.ensures.1 in
    rw (p.1, p.2, ← c.pool_refused.ensures, c.if-pool_refused.false, ← c.places-n.ensures, ← c.check_fault.ensures, c.in_err-check_fault.was)

pub returns : goal.returns
unfolding checked_for sized and_then
returns c =
    rw (← c.pool_refused.ensures, c.if-pool_refused.false, ← c.places-n.ensures, ← c.check_fault.ensures, c.in_ok-check_fault.was, c.check_fault-2.ensures)
