-- Outside the list nothing is set.
use Rattle.std.proofs.Common.{sym}
use lib.Seq.{set_out}
use Rattle.events.proofs.pool.put_point.Goals as goal

pub returns-else-at-points : goal.returns-else-at-points
returns-else-at-points c = sym (set_out _ _ _ c.if-at-points.false)
