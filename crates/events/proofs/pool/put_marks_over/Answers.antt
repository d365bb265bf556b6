-- The row that is there is written over; outside the list nothing is set.
use Rattle.std.proofs.Common.{sym}
use lib.Seq.{set_out}
use Rattle.events.proofs.pool.put_marks_over.Goals as goal

pub returns-then-at-marks : goal.returns-then-at-marks
returns-then-at-marks c = rw c.marks_over.ensures

pub returns-else-at-marks : goal.returns-else-at-marks
returns-else-at-marks c = sym (set_out _ _ _ c.if-at-marks.false)
