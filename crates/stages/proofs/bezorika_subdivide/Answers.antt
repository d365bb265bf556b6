-- The sweep's answer is told as it is.
use mathlib.Core.Path.{refl}
use Rattle.stages.specs.Told.{sweep_counts}
use Rattle.stages.proofs.bezorika_subdivide.Goals as goal

pub returns : goal.returns
unfolding sweep_counts
returns c =
    let ended = c.tell_end.ensures in
    rw (← c.operation_of.ensures, ← c.subdivide-s.ensures)
    (record { value = ended.value; marks_after = refl; taken_after = refl; counts_after = rw (← c.number_of_flag.ensures) c.tell_counts.ensures; place_after = ended.place_after })
