use mathlib.Core.Path.{ap}
use native.Mathlib.Omega.{arith}
use Rattle.numbers.specs.declared.Point.{Point}
use Rattle.events.specs.Event.{Event}
use Rattle.sweep.proofs.Queued.{evicted-none, evicted-next}
use Rattle.sweep.proofs.queue.evict_all.Goals as goal

pub loop-r-init : goal.loop-r-init
loop-r-init c = record { out = evicted-none _ _ _ _; within = c.requires; counted = omega arith }

pub loop-r-preserved : goal.loop-r-preserved
loop-r-preserved c =
    let l = c.loop-r in
    let out = c.evict-last.ensures in
    record { out = evicted-next _ _ l.auto.r _ _ _ _ _ l.invariant.out _ (ap (λ (e : Event Point). e.partner) c.read_used-f.ensures) out.queue_after; within = out.upper_bound; counted = omega arith }
