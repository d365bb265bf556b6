-- The two keys are those of the definition's partners.
use Rattle.neighbours.proofs.Meetings.{ends_is}
use Rattle.neighbours.proofs.meeting.ends_first.Goals as goal

pub returns : goal.returns
returns c = ends_is _ _ _ _ _ _ _ _ _ _ _ c.read_used-right_a.ensures c.read_used-right_b.ensures c.key_used.ensures c.key_used-2.ensures c.before-2.ensures
