-- The case that was matched picks the answer.
use Rattle.neighbours.specs.Neighbours.{met_by}
use Rattle.neighbours.proofs.meeting.met.Goals as goal

pub returns-in-Ok : goal.returns-in-Ok
unfolding met_by
returns-in-Ok c = rw c.in-Ok.is

pub returns-in-Err : goal.returns-in-Err
unfolding met_by
returns-in-Err c = rw c.in-Err.is
