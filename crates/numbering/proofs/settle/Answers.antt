use native.Mathlib.Omega.{arith}
use Rattle.events.specs.Pool.{size}
use Rattle.numbering.proofs.Settling.{none-settled, more-settled, all_settled}
use Rattle.numbering.proofs.settle.Goals as goal

pub loop-r-init : goal.loop-r-init
loop-r-init c = none-settled _ _ _ _

pub loop-r-preserved : goal.loop-r-preserved
unfolding size
loop-r-preserved c =
    more-settled _ _ _ _ _ _ (omega arith) (omega arith) c.loop-r.invariant c.contour_at-contour.ensures c.renumbered.ensures

pub returns : goal.returns
returns c = all_settled _ _ _ _ _ _ (omega arith) c.loop-r.invariant
