-- Who begins and who ends first is found, and then the cuts.
use Rattle.neighbours.proofs.Meetings.{ended_is, overlapped-left, overlapped-laid}
use Rattle.neighbours.proofs.meeting.overlap.Goals as goal

pub returns-then-one_left : goal.returns-then-one_left
returns-then-one_left c = overlapped-left _ _ _ _ _ _ _ _ _ _ _ c.ends_first-ends.ensures c.pick-h.ensures c.pick-k.ensures _ c.if-one_left.true (ended_is _ _ _ _ _ _ _ c.left_shared.ensures c.ended.ensures.0 c.ended.ensures.1)

pub returns : goal.returns
returns c = overlapped-laid _ _ _ _ _ _ _ _ _ _ _ c.ends_first-ends.ensures c.pick-h.ensures c.pick-k.ensures _ _ _ _ c.if-one_left.false c.begins_first-first.ensures c.pick-i.ensures c.pick-j.ensures (ended_is _ _ _ _ _ _ _ c.lay.ensures c.ended-2.ensures.0 c.ended-2.ensures.1)
