-- The case that was matched picks the answer.
use Rattle.events.specs.Binary64.{shown_meeting}
use Rattle.segments.specs.Segments.{by_crossing}
use Rattle.segments.proofs.old_is_below_by_crossing.Goals as goal

pub returns-then-same_point : goal.returns-then-same_point
unfolding by_crossing shown_meeting
returns-then-same_point c = rw (c.in-At.is, ← c.same_point.ensures, c.if-same_point.true)

pub returns-in-Nothing : goal.returns-in-Nothing
unfolding by_crossing shown_meeting
returns-in-Nothing c = rw c.in-Nothing.is

pub returns-else-same_point : goal.returns-else-same_point
unfolding by_crossing shown_meeting
returns-else-same_point c = rw (c.in-At.is, ← c.same_point.ensures, c.if-same_point.false)

pub returns-in-Along : goal.returns-in-Along
unfolding by_crossing shown_meeting
returns-in-Along c = rw (c.in-Along.is, c.old_is_below_on_line.ensures)

pub returns-in-Lost : goal.returns-in-Lost
unfolding by_crossing shown_meeting
returns-in-Lost c = rw c.in-Lost.is
