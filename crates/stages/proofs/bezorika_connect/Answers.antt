-- Connection's answer is told as it is.
use mathlib.Core.Path.{refl}
use Rattle.stages.specs.Told.{connect_counts}
use Rattle.stages.proofs.bezorika_connect.Goals as goal

pub returns : goal.returns
unfolding connect_counts
returns c =
    let ended = c.tell_connection.ensures in
    rw (← c.connect_edges-c.ensures)
    (record { value = ended.value; marks_after = refl; holes_after = refl; counts_after = c.tell_counts.ensures; place_after = ended.place_after })
