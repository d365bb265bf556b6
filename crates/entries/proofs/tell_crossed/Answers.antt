-- The case that was matched picks what is told.
use mathlib.Core.Path.{refl}
use Rattle.entries.specs.ToldCrossing as Told
use Rattle.entries.proofs.tell_crossed.Goals as goal

pub returns-in-Err : goal.returns-in-Err
unfolding Told.refusal Told.place Told.kind Told.corners
returns-in-Err c = rw c.in-Err.is (record { value = c.from.ensures; kind_after = refl; corners_after = refl; place_after = refl })

pub returns-in-Ok : goal.returns-in-Ok
unfolding Told.refusal Told.place Told.kind Told.corners
returns-in-Ok c = rw c.in-Ok.is (record { value = refl; kind_after = c.tell_crossing.ensures.kind_after; corners_after = c.tell_crossing.ensures.corners_after; place_after = refl })
