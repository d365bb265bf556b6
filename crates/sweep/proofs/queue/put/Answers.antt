-- Where there is room it goes in at its place.
use Rattle.sweep.proofs.Queued.{put-none, put_some}
use Rattle.sweep.proofs.queue.put.Goals as goal

pub returns-then-queue-end-clause-queue_after : goal.returns-then-queue-end-clause-queue_after
returns-then-queue-end-clause-queue_after c = put-none _ _ _ _ c.requires.0 c.if-queue-end.true

pub returns-clause-queue_after : goal.returns-clause-queue_after
returns-clause-queue_after c =
    let place = c.place_of-at.ensures in
    put_some _ _ _ _ c.if-queue-end.false _ place.value place.upper_bound _ c.insert_at.ensures
