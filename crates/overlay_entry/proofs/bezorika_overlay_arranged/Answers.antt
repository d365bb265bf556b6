-- What was laid over is told.
use mathlib.Core.Path.{refl}
use Rattle.overlay_entry.proofs.bezorika_overlay_arranged.Goals as goal

pub returns : goal.returns
returns c = rw (← c.overlay_arranged-overlaid.ensures) (record { value = c.tell.ensures.value; out_after = refl; length_after = c.tell.ensures.length_after; place_after = c.tell.ensures.place_after })
