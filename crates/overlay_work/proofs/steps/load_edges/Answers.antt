-- Loading's answer decides.
use Rattle.overlay_work.proofs.Handing.{unloaded, loaded_on}
use Rattle.overlay_work.proofs.steps.load_edges.Goals as goal

pub returns-in-Err : goal.returns-in-Err
returns-in-Err c = unloaded _ _ _ _ _ _ c.load.ensures _ c.in-Err.is

pub returns-in-Ok : goal.returns-in-Ok
returns-in-Ok c = loaded_on _ _ _ _ _ _ c.load.ensures _ _ c.in-Ok.is c.sweep_loaded.ensures
