-- The case that was matched picks the number.
use Rattle.events.specs.Pool.{there_number}
use Rattle.events.proofs.pool.number_of_there.Goals as goal

pub returns-in-None : goal.returns-in-None
unfolding there_number
returns-in-None c = rw c.in-None.is

pub returns-in-Some : goal.returns-in-Some
unfolding there_number
returns-in-Some c = rw c.in-Some.is
