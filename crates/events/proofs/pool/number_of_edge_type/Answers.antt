-- The case that was matched picks the number.
use Rattle.events.specs.Pool.{edge_type_number}
use Rattle.events.proofs.pool.number_of_edge_type.Goals as goal

pub returns-in-Normal : goal.returns-in-Normal
unfolding edge_type_number
returns-in-Normal c = rw c.in-Normal.is

pub returns-in-NonContributing : goal.returns-in-NonContributing
unfolding edge_type_number
returns-in-NonContributing c = rw c.in-NonContributing.is

pub returns-in-SameTransition : goal.returns-in-SameTransition
unfolding edge_type_number
returns-in-SameTransition c = rw c.in-SameTransition.is

pub returns-in-DifferentTransition : goal.returns-in-DifferentTransition
unfolding edge_type_number
returns-in-DifferentTransition c = rw c.in-DifferentTransition.is
