-- The neighbours meet, and the segment goes unless that was refused.
use native.Mathlib.Omega.{arith}
use Rattle.sweep.proofs.Turns.{worked-met, leave-refused, leave-done}
use Rattle.sweep.proofs.event.leave_at.Goals as goal

pub returns-in-Err : goal.returns-in-Err
returns-in-Err c = record { does = leave-refused _ _ _ _ _ _ _ _ _ _ _ c.below_at-lower.ensures c.member_at-upper.ensures c.close_up-last.ensures _ c.in-Err.is c.after_meeting.ensures; worked = worked-met _ _ _ _ _ c.after_meeting.ensures (omega arith) }

pub returns-in-Ok : goal.returns-in-Ok
returns-in-Ok c = record { does = leave-done _ _ _ _ _ _ _ _ _ _ _ c.below_at-lower.ensures c.member_at-upper.ensures c.close_up-last.ensures _ _ c.requires.0 c.requires.1 c.in-Ok.is c.remove_at.ensures c.after_meeting-in-Ok.ensures; worked = worked-met _ _ _ _ _ c.after_meeting-in-Ok.ensures (omega arith) }
