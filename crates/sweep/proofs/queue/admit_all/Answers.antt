use native.Mathlib.Omega.{arith}
use Rattle.sweep.proofs.Queued.{admitted-none, admitted-next}
use Rattle.sweep.proofs.queue.admit_all.Goals as goal

pub loop-r-init : goal.loop-r-init
loop-r-init c = record { admitted = admitted-none _ _ _ _ _ _; within = c.requires.0; counted = omega arith }

pub loop-r-preserved : goal.loop-r-preserved
loop-r-preserved c =
    let l = c.loop-r in
    let one = c.admit-last.ensures in
    record { admitted = admitted-next _ _ l.auto.r _ _ _ _ _ _ _ _ l.auto.queue l.invariant.admitted one.queue_after; within = one.upper_bound; counted = omega arith }
