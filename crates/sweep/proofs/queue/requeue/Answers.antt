-- The partners go out, and then the records and their partners go in.
use native.Mathlib.Omega.{arith}
use Rattle.sweep.proofs.Queued.{requeued-is}
use Rattle.sweep.proofs.queue.requeue.Goals as goal

pub returns-clause-queue_after : goal.returns-clause-queue_after
returns-clause-queue_after c =
    requeued-is _ _ _ _ _ _ _ _ _ _ (omega arith) c.evict_all-m.ensures.queue_after c.admit_all.ensures.queue_after
