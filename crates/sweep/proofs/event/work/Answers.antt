-- Past all that matters the run ends; a left event enters, and a right one leaves.
use Rattle.sweep.proofs.Turns.{worked-ended, turn-ended, turn-enters, turn-leaves}
use Rattle.sweep.proofs.event.work.Goals as goal

pub returns-then-is_past : goal.returns-then-is_past
returns-then-is_past c = record { does = turn-ended _ _ _ _ _ _ _ _ _ c.read_used-f.ensures c.is_past.ensures _ c.if-is_past.true c.end.ensures; worked = worked-ended _ _ c.end.ensures }

pub returns-then-f-clause-does : goal.returns-then-f-clause-does
returns-then-f-clause-does c = turn-enters _ _ _ _ _ _ _ _ _ c.read_used-f.ensures c.is_past.ensures _ _ _ c.if-is_past.false c.if-f.true c.enter.ensures.does

pub returns-clause-does : goal.returns-clause-does
returns-clause-does c = turn-leaves _ _ _ _ _ _ _ _ _ c.read_used-f.ensures c.is_past.ensures _ _ _ c.if-is_past.false c.if-f.false c.leave.ensures.does
