-- The edge type picks the rule, and for a coinciding edge the operation decides.
use Rattle.class.specs.Class.{in_result_as, same_in_result, different_in_result}
use Rattle.class.proofs.in_result.Goals as goal

pub returns-in-Normal : goal.returns-in-Normal
unfolding in_result_as
returns-in-Normal c = rw (c.in-Normal.is, c.normal_in_result.ensures)

pub returns-in-Intersection : goal.returns-in-Intersection
unfolding in_result_as same_in_result
returns-in-Intersection c = rw (c.in-SameTransition.is, c.in-Intersection.is)

pub returns-in-Union : goal.returns-in-Union
unfolding in_result_as same_in_result
returns-in-Union c = rw (c.in-SameTransition.is, c.in-Union.is)

pub returns-in-Difference : goal.returns-in-Difference
unfolding in_result_as same_in_result
returns-in-Difference c = rw (c.in-SameTransition.is, c.in-Difference.is)

pub returns-in-Xor : goal.returns-in-Xor
unfolding in_result_as same_in_result
returns-in-Xor c = rw (c.in-SameTransition.is, c.in-Xor.is)

pub returns-in-Difference-operation : goal.returns-in-Difference-operation
unfolding in_result_as different_in_result
returns-in-Difference-operation c = rw (c.in-DifferentTransition.is, c.in-Difference-operation.is)

pub returns-in-Intersection-operation : goal.returns-in-Intersection-operation
unfolding in_result_as different_in_result
returns-in-Intersection-operation c = rw (c.in-DifferentTransition.is, c.in-Intersection-operation.is)

pub returns-in-Union-operation : goal.returns-in-Union-operation
unfolding in_result_as different_in_result
returns-in-Union-operation c = rw (c.in-DifferentTransition.is, c.in-Union-operation.is)

pub returns-in-Xor-operation : goal.returns-in-Xor-operation
unfolding in_result_as different_in_result
returns-in-Xor-operation c = rw (c.in-DifferentTransition.is, c.in-Xor-operation.is)

pub returns-in-NonContributing : goal.returns-in-NonContributing
unfolding in_result_as
returns-in-NonContributing c = rw c.in-NonContributing.is
