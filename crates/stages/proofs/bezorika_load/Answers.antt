-- The case that was matched picks what is told.
use mathlib.Core.Path.{refl}
use Rattle.loading.specs.Answer.{number_of, values_of}
use Rattle.stages.specs.Told.{load_used, load_place}
use Rattle.stages.proofs.bezorika_load.Goals as goal

pub returns-in-Err : goal.returns-in-Err
unfolding number_of values_of load_used load_place
returns-in-Err c = rw (← c.load.ensures, c.in-Err.is) (record { value = c.from.ensures; marks_after = refl; used_after = refl; place_after = refl })

pub returns-in-Ok : goal.returns-in-Ok
unfolding number_of values_of load_used load_place
returns-in-Ok c = rw (← c.load.ensures, c.in-Ok.is) (record { value = refl; marks_after = refl; used_after = refl; place_after = refl })
