-- The invariant: the records below r are in.
use mathlib.Core.Path.{◌≡◌}
use Prim.Native.Nat.{◌≤◌, ◌-◌}
use lib.ListN.{length, take}
use Rattle.events.specs.Pool.{pool, stored}
use Rattle.events.specs.Store.{look}
use Rattle.waiting.specs.Waiting.{flagged, before_used}
use Rattle.waiting.specs.Queue as Queue
use Rattle.sweep.proofs.queue.admit_all.Given as goal

abbrev pub invariant-loop-r : goal.invariant-loop-r
invariant-loop-r l = record {
  admitted : take l.last l.queue ≡ Queue.admitted (λ i. (look stored (pool l.points l.marks) l.used i).partner) l.from (flagged l.waits) (before_used (pool l.points l.marks) l.used) (length l.initial.queue) (l.r - l.from) (take l.n l.initial.queue);
  within : l.last ≤ length l.queue;
  counted : l.r - l.from ≤ l.used - l.from;
}
