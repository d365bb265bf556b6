-- A check that passes hands on to the next.
use Rattle.std.proofs.lemmas.Result.{err_from_is_err_and}
use Rattle.checks.specs.Checks.{and_then, checked}
use Rattle.checks.specs.OnPool.{reason_of, strikes}
use Rattle.checks.proofs.check_loaded.Goals as goal

pub returns-in_err-check_lowest : goal.returns-in_err-check_lowest
unfolding checked and_then reason_of strikes
returns-in_err-check_lowest c =
    let p = err_from_is_err_and c.from_residual.result c.from_residual.ensures.1 in
    rw (p.1, p.2, ← c.check_lowest.ensures, c.in_err-check_lowest.was)

pub returns : goal.returns
unfolding checked and_then reason_of strikes
returns c = rw (← c.check_lowest.ensures, c.in_ok-check_lowest.was, c.check_lowest-2.ensures)
