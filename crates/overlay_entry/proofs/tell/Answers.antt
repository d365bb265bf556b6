-- The case that was matched picks what is told.
use mathlib.Core.Path.{refl}
use Rattle.overlay_work.specs.Answer.{number_of, values_of}
use Rattle.overlay_entry.specs.Told.{length, place}
use Rattle.overlay_entry.proofs.tell.Goals as goal

pub returns-in-Err : goal.returns-in-Err
unfolding number_of values_of length place
returns-in-Err c = rw c.in-Err.is (record { value = c.from.ensures; length_after = refl; place_after = refl })

pub returns-in-Ok : goal.returns-in-Ok
unfolding number_of values_of length place
returns-in-Ok c = rw c.in-Ok.is (record { value = refl; length_after = refl; place_after = refl })
