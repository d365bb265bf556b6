-- The invariant: the older partners of the records below r are out.
use mathlib.Core.Path.{◌≡◌}
use Prim.Native.Nat.{◌≤◌, ◌-◌}
use lib.ListN.{length, take}
use Rattle.events.specs.Pool.{pool, stored}
use Rattle.events.specs.Store.{look}
use Rattle.waiting.specs.Waiting.{flagged}
use Rattle.waiting.specs.Queue as Queue
use Rattle.sweep.proofs.queue.evict_all.Given as goal

abbrev pub invariant-loop-r : goal.invariant-loop-r
invariant-loop-r l = record {
  out : take l.last l.queue ≡ Queue.evicted (λ i. (look stored (pool l.points l.marks) l.used i).partner) l.from (flagged l.waits) (l.r - l.from) (take l.n l.initial.queue);
  within : l.last ≤ length l.queue;
  counted : l.r - l.from ≤ l.used - l.from;
}
