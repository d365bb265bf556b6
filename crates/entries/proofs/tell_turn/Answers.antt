-- The case that was matched picks the number.
use Rattle.orientation.specs.Orientation.{number_of}
use Rattle.entries.proofs.tell_turn.Goals as goal

pub returns-in-Negative : goal.returns-in-Negative
unfolding number_of
returns-in-Negative c = rw c.in-Negative.is

pub returns-in-Zero : goal.returns-in-Zero
unfolding number_of
returns-in-Zero c = rw c.in-Zero.is

pub returns-in-Positive : goal.returns-in-Positive
unfolding number_of
returns-in-Positive c = rw c.in-Positive.is
