-- A shared end is left alone.
use Rattle.neighbours.proofs.Meetings.{ended_is, still-is, at-shared-left, at-shared-right, at-point}
use Rattle.neighbours.proofs.meeting.meet_at.Goals as goal

pub returns-then-one_left : goal.returns-then-one_left
returns-then-one_left c = at-shared-left _ _ _ _ _ _ _ _ _ _ c.if-one_left.true (still-is _ _ _ _ _ _ c.still.ensures.0 c.still.ensures.1 c.ended.ensures.0 c.ended.ensures.1)

pub returns-then-one_right : goal.returns-then-one_right
returns-then-one_right c = at-shared-right _ _ _ _ _ _ _ _ _ _ c.if-one_left.false c.if-one_right.true (still-is _ _ _ _ _ _ c.still-then-one_right.ensures.0 c.still-then-one_right.ensures.1 c.ended-then-one_right.ensures.0 c.ended-then-one_right.ensures.1)

pub returns : goal.returns
returns c = at-point _ _ _ _ _ _ _ _ _ _ c.if-one_left.false c.if-one_right.false (ended_is _ _ _ _ _ _ _ c.cross.ensures c.ended-2.ensures.0 c.ended-2.ensures.1)
