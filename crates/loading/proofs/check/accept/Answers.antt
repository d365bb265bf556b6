-- Each check that passes hands on to the next.
use Rattle.std.proofs.lemmas.Result.{err_from_is_err_and}
use Rattle.checks.specs.Checks.{and_then}
use Rattle.loading.specs.OnPool as OnPool
use Rattle.loading.proofs.check.accept.Goals as goal

pub returns-in_err-check_sizes : goal.returns-in_err-check_sizes
unfolding OnPool.accept and_then
returns-in_err-check_sizes c =
    let p = err_from_is_err_and c.from_residual.result c.from_residual.ensures.1 in
    rw (p.1, p.2, ← c.check_sizes.ensures, c.in_err-check_sizes.was)

pub returns-in_err-check_pool : goal.returns-in_err-check_pool
unfolding OnPool.accept and_then
returns-in_err-check_pool c =
    let r = c.from_residual-in_err-check_pool in
    let p = err_from_is_err_and r.result r.ensures.1 in
    rw (p.1, p.2, ← c.check_sizes.ensures, c.in_ok-check_sizes.was, ← c.check_pool.ensures, c.in_err-check_pool.was)

pub returns : goal.returns
unfolding OnPool.accept and_then
returns c =
    rw
    (← c.check_sizes.ensures, c.in_ok-check_sizes.was, ← c.check_pool.ensures, c.in_ok-check_pool.was, c.check_edges.ensures)
