-- The case that was matched picks what is told.
use mathlib.Core.Path.{refl}
use Rattle.arranging.specs.Answer.{number_of, values_of}
use Rattle.overlay_entry.specs.Told.{arranged_place}
use Rattle.overlay_entry.proofs.bezorika_arrange.Goals as goal

pub returns-in-Ok : goal.returns-in-Ok
unfolding number_of values_of arranged_place
returns-in-Ok c = rw (← c.arrange.ensures, c.in-Ok.is) (record { value = refl; bytes_after = refl; place_after = refl })

pub returns-in-Err : goal.returns-in-Err
unfolding number_of values_of arranged_place
returns-in-Err c = rw (← c.arrange.ensures, c.in-Err.is) (record { value = c.from.ensures; bytes_after = refl; place_after = refl })
