-- The case that was matched picks the number.
use Rattle.events.specs.Pool.{transition_number}
use Rattle.events.proofs.pool.number_of_transition.Goals as goal

pub returns-in-None : goal.returns-in-None
unfolding transition_number
returns-in-None c = rw c.in-None.is

pub returns-in-InOut : goal.returns-in-InOut
unfolding transition_number
returns-in-InOut c = rw c.in-InOut.is

pub returns-in-OutIn : goal.returns-in-OutIn
unfolding transition_number
returns-in-OutIn c = rw c.in-OutIn.is
