-- The answer that was matched picks the case.
use Rattle.acceptance.specs.OnPool.{is_refused}
use Rattle.acceptance.proofs.is_refused.Goals as goal

pub returns-in-Ok : goal.returns-in-Ok
unfolding is_refused
returns-in-Ok c = rw c.in-Ok.is

pub returns-in-Err : goal.returns-in-Err
unfolding is_refused
returns-in-Err c = rw c.in-Err.is
