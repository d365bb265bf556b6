-- The invariant: the halvings that are left, from lo to hi, find the place; and the runs are of x's point.
use Prim.Native.Nat.{◌≤◌, ◌-◌}
use lib.ListN.{length}
use Rattle.events.specs.Pool.{pool, stored}
use Rattle.events.specs.Store.{look}
use Rattle.waiting.specs.Waiting.{before_used}
use Rattle.sweep.specs.Sides.{SidesOf}
use Rattle.sweep.proofs.Queued.{Halved}
use Rattle.sweep.proofs.queue.place_of.Given as goal

abbrev pub invariant-loop-lo : goal.invariant-loop-lo
invariant-loop-lo l =
    Halved (before_used (pool l.points l.marks) l.used) l.queue l.n l.x l.lo l.hi × (l.lo ≤ l.hi) × (l.hi ≤ l.n) × (l.n ≤ length l.queue) × SidesOf (look stored (pool l.points l.marks) l.used l.x).point l.left l.right

abbrev pub decreases-loop-lo : goal.decreases-loop-lo
decreases-loop-lo l = l.hi - l.lo
