-- The two keys are the definition's.
use Rattle.neighbours.proofs.meeting.begins_first.Goals as goal

pub returns : goal.returns
returns c = rw (c.before-2.ensures, c.key_used-2.ensures, c.key_used.ensures)
