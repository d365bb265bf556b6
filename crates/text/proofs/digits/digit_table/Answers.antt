-- One digit more.
use native.Mathlib.Omega.{arith}
use Rattle.text.proofs.Table.{one_filled}
use Rattle.text.proofs.digits.digit_table.Goals as goal

pub loop-d-preserved : goal.loop-d-preserved
loop-d-preserved c = one_filled _ _ _ c.digit_byte.ensures c.loop-d.invariant.1 (omega arith) c.loop-d.invariant.0
