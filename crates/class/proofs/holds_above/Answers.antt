-- The operation that was matched picks the rule.
use Rattle.class.specs.Class.{holds_above}
use mathlib.Core.Bool.{xor}
use Rattle.class.proofs.holds_above.Goals as goal

pub returns-then-subject : goal.returns-then-subject
unfolding holds_above
returns-then-subject c = rw (c.in-Difference.is, c.if-subject.true)

pub returns-in-Intersection : goal.returns-in-Intersection
unfolding holds_above
returns-in-Intersection c = rw c.in-Intersection.is

pub returns-in-Union : goal.returns-in-Union
unfolding holds_above
returns-in-Union c = rw c.in-Union.is

pub returns-in-Xor : goal.returns-in-Xor
unfolding holds_above xor
returns-in-Xor c = rw c.in-Xor.is

pub returns-else-subject : goal.returns-else-subject
unfolding holds_above
returns-else-subject c = rw (c.in-Difference.is, c.if-subject.false)
