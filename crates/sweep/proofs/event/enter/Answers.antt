-- A slot is found, the neighbours meet, and the segment stands between them.
use native.Mathlib.Omega.{arith}
use Rattle.sweep.proofs.Turns.{worked-met, enter-does}
use Rattle.sweep.proofs.event.enter.Goals as goal

pub returns : goal.returns
returns c = record { does = enter-does _ _ _ _ _ _ _ _ _ _ _ _ _ _ _ c.requires.0 c.slot_below-k.ensures c.below_at-lower.ensures c.member_at-upper.ensures c.lowest_at-lowest.ensures c.between-last.ensures c.insert_at.ensures c.after_meeting.ensures; worked = worked-met _ _ _ _ _ c.after_meeting.ensures (omega arith) }
