-- The left end is looked at first.
use Rattle.neighbours.proofs.Meetings.{at_left, at_right}
use Rattle.neighbours.proofs.meeting.at_end.Goals as goal

pub returns-then-same_point : goal.returns-then-same_point
returns-then-same_point c = at_left _ _ _ _ _ _ _ _ c.left_point.ensures c.same_point.ensures c.if-same_point.true

pub returns : goal.returns
returns c = at_right _ _ _ _ _ _ _ _ c.left_point.ensures c.same_point.ensures _ _ c.if-same_point.false c.right_point.ensures c.same_point-2.ensures
