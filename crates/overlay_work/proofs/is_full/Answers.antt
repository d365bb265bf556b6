-- Only a refusal has a number.
use Rattle.overlay_work.specs.Overlay.{is_full}
use Rattle.overlay_work.proofs.is_full.Goals as goal

pub returns-in-Ok : goal.returns-in-Ok
unfolding is_full
returns-in-Ok c = rw c.in-Ok.is

pub returns-in-Err : goal.returns-in-Err
unfolding is_full
returns-in-Err c = rw (c.in-Err.is, c.from.ensures, c.from-in-Err.ensures)
