-- The checks decide.
use Rattle.sweep.specs.OnPool.{as_lent}
use Rattle.sweep.proofs.Sweeps.{refused-is, passed_is}
use Rattle.sweep.proofs.subdivide.Goals as goal

pub returns-in-Err : goal.returns-in-Err
unfolding as_lent
returns-in-Err c = refused-is _ _ _ _ _ _ c.check.ensures _ c.in-Err.is

pub returns-in-Ok : goal.returns-in-Ok
unfolding as_lent
returns-in-Ok c = passed_is _ _ _ _ _ _ c.check.ensures _ c.in-Ok.is c.sweep.ensures
