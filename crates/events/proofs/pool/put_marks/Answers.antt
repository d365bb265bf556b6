-- Outside the list nothing is set.
use Rattle.std.proofs.Common.{sym}
use lib.Seq.{set_out}
use Rattle.events.proofs.pool.put_marks.Goals as goal

pub returns-else-at-marks : goal.returns-else-at-marks
returns-else-at-marks c = sym (set_out _ _ _ c.if-at-marks.false)
