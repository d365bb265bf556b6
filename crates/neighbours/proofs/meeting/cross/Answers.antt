-- Both ends are looked at before either segment is cut.
use Rattle.neighbours.proofs.Meetings.{crossed-on, crossed-stopped}
use Rattle.neighbours.proofs.meeting.cross.Goals as goal

pub returns-in-Ok : goal.returns-in-Ok
returns-in-Ok c =
    crossed-on _ _ _ _ _ _ _ _ _ c.at_end-a_ends.ensures c.at_end-b_ends.ensures _ _ _ c.cut_unless-first.ensures _ c.in-Ok.is c.cut_unless.ensures

pub returns-in-Err : goal.returns-in-Err
returns-in-Err c =
    crossed-stopped _ _ _ _ _ _ _ _ _ c.at_end-a_ends.ensures c.at_end-b_ends.ensures _ _ _ c.cut_unless-first.ensures _ c.in-Err.is
