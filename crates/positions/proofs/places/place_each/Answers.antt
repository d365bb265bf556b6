use native.Mathlib.Omega.{arith}
use Rattle.std.proofs.Common.{rules}
use Rattle.positions.proofs.Placing.{placed-start, placed-turn}
use Rattle.positions.proofs.places.place_each.Goals as goal

pub loop-k-init : goal.loop-k-init
loop-k-init c = placed-start _ _ _ _ c.requires (c.fill.ensures.after (search rules))

pub loop-k-preserved : goal.loop-k-preserved
loop-k-preserved c = placed-turn _ _ _ _ _ _ c.requires (omega arith) (omega arith) c.loop-k.invariant c.put.ensures
