-- The first step goes on or has stopped.
use Rattle.neighbours.proofs.Steps.{then-on, then-stopped}
use Rattle.neighbours.proofs.step.twice.Goals as goal

pub returns-in-Ok : goal.returns-in-Ok
returns-in-Ok c = then-on _ _ _ _ _ _ _ _ _ c.cut-first.ensures _ _ _ c.in-Ok.is c.cut.ensures

pub returns-in-Err : goal.returns-in-Err
returns-in-Err c = then-stopped _ _ _ _ _ _ _ _ _ c.cut-first.ensures _ _ _ c.in-Err.is
