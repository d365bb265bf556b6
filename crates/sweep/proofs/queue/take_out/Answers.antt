-- It stands at its slot, or it is no member.
use Rattle.sweep.proofs.Queued.{out_none, out_some}
use Rattle.sweep.proofs.queue.take_out.Goals as goal

pub returns-then-end-at-clause-queue_after : goal.returns-then-end-at-clause-queue_after
returns-then-end-at-clause-queue_after c = out_none _ _ _ _ c.requires c.slot_of-at.ensures c.if-end-at.true

pub returns-clause-queue_after : goal.returns-clause-queue_after
returns-clause-queue_after c = out_some _ _ _ _ c.requires c.slot_of-at.ensures c.if-end-at.false _ c.remove_at.ensures
