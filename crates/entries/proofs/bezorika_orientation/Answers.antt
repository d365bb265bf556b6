-- The case that was matched picks what is told.
use mathlib.Core.Path.{refl}
use Rattle.entries.specs.ToldTurn as Told
use Rattle.entries.proofs.bezorika_orientation.Goals as goal

pub returns-in-Err : goal.returns-in-Err
unfolding Told.refusal Told.place Told.sign
returns-in-Err c = rw (← c.orientation.ensures, c.in-Err.is) (record { value = c.from.ensures; sign_after = refl; place_after = refl })

pub returns-in-Ok : goal.returns-in-Ok
unfolding Told.refusal Told.place Told.sign
returns-in-Ok c = rw (← c.orientation.ensures, c.in-Ok.is) (record { value = refl; sign_after = c.tell_turn.ensures; place_after = refl })
