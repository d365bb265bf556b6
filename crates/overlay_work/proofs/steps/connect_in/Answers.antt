-- Connection's outcome decides.
use Rattle.overlay_work.proofs.Handing.{unconnected, connected-on}
use Rattle.overlay_work.proofs.steps.connect_in.Goals as goal

pub returns-in-Err : goal.returns-in-Err
returns-in-Err c = unconnected _ _ _ _ _ c.connect_edges-connected.ensures _ c.in-Err.is

pub returns-in-Ok : goal.returns-in-Ok
returns-in-Ok c = connected-on _ _ _ _ _ c.connect_edges-connected.ensures _ c.in-Ok.is c.print_text.ensures
