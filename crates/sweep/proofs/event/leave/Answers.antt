-- It is a member at its slot, or it is none.
use Rattle.sweep.proofs.Turns.{leaves, not-member}
use Rattle.sweep.proofs.event.leave.Goals as goal

pub returns-then-k-n-clause-does : goal.returns-then-k-n-clause-does
returns-then-k-n-clause-does c = leaves _ _ _ _ _ _ c.requires c.slot_of-k.ensures _ _ _ c.if-k-n.true c.leave_at.ensures.does

pub returns-clause-does : goal.returns-clause-does
returns-clause-does c = not-member _ _ _ _ _ _ c.requires c.slot_of-k.ensures c.if-k-n.false
