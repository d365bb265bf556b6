-- The operation that was matched picks the rule.
use Rattle.class.specs.Class.{normal_in_result}
use Rattle.class.proofs.normal_in_result.Goals as goal

pub returns-then-subject : goal.returns-then-subject
unfolding normal_in_result
returns-then-subject c = rw (c.in-Difference.is, c.if-subject.true)

pub returns-in-Intersection : goal.returns-in-Intersection
unfolding normal_in_result
returns-in-Intersection c = rw c.in-Intersection.is

pub returns-in-Union : goal.returns-in-Union
unfolding normal_in_result
returns-in-Union c = rw c.in-Union.is

pub returns-else-subject : goal.returns-else-subject
unfolding normal_in_result
returns-else-subject c = rw (c.in-Difference.is, c.if-subject.false)

pub returns-in-Xor : goal.returns-in-Xor
unfolding normal_in_result
returns-in-Xor c = rw c.in-Xor.is
