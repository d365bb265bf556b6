-- Outside the list nothing is set.
use mathlib.Core.Path.{sym, refl}
use lib.Seq.{set_out}
use Rattle.rows.specs.Rows.{point_code}
use Rattle.rows.proofs.put_point.Goals as goal

pub returns-then-i-at : goal.returns-then-i-at
unfolding point_code
returns-then-i-at c = refl

pub returns-else-i-at : goal.returns-else-i-at
returns-else-i-at c = sym (set_out _ _ _ c.if-i-at.false)
