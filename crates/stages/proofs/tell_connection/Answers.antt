-- The case that was matched picks what is told.
use mathlib.Core.Path.{refl}
use Rattle.connection.specs.Answer.{number_of, values_of}
use Rattle.stages.specs.Told.{connect_place}
use Rattle.stages.proofs.tell_connection.Goals as goal

pub returns-in-Ok : goal.returns-in-Ok
unfolding number_of values_of connect_place
returns-in-Ok c = rw c.in-Ok.is (record { value = refl; place_after = refl })

pub returns-in-Err : goal.returns-in-Err
unfolding number_of values_of connect_place
returns-in-Err c = rw c.in-Err.is (record { value = c.from.ensures; place_after = refl })
