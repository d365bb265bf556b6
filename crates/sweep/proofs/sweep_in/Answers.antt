-- The run starts from every place waiting and the loaded records in the queue, and its last turn tells the answer.
use mathlib.Core.Path.{refl}
use Rattle.sweep.proofs.Sweeps.{accepted, places-are, flags-at-start, all-flags, queue-at-start, begun, fits-at-start, none_yet, not-fewer, swept-is}
use Rattle.sweep.proofs.AtBinary64.{start-at}
use Rattle.sweep.proofs.sweep_in.Goals as goal

pub run-last-requires : goal.run-last-requires
run-last-requires c =
    let a = accepted _ _ _ c.requires.0 in
    let from = begun _ _ _ _ c.line_up.ensures c.start.ensures in (
      fits-at-start _ _ _ _ _ _ _ _ c.requires.1 a.1 from,
      start-at _ _ _ c.requires.0 c.args.queue.now _ _ _ _ (all-flags _ _ _ _ a.0 c.requires.1) from c.requeue-waiting.ensures.queue_after c.requeue-waiting.ensures.upper_bound c.requeue-waiting.auto.queue (queue-at-start _ _ _ _ a.0 c.requires.1),
    )

pub overflow_sub-result : goal.overflow_sub-result
overflow_sub-result c =
    let a = accepted _ _ _ c.requires.0 in
    let from = begun _ _ _ _ c.line_up.ensures c.start.ensures in
    not-fewer _ _ _ _ _ _ _ _ _ _ c.run-last.result _ _ _ _ _ _ (places-are _ a.0) c.bounds_of-bounds.ensures.subject_value c.bounds_of-bounds.ensures.clip_value (flags-at-start _ _ _ _ c.requires.1) (none_yet _ _ _ _ from).0 (none_yet _ _ _ _ from).1 from c.run-last.ensures.result_after

pub returns : goal.returns
returns c =
    let a = accepted _ _ _ c.requires.0 in
    let from = begun _ _ _ _ c.line_up.ensures c.start.ensures in
    swept-is _ _ _ _ _ _ _ _ _ _ _ _ _ _ _ _ _ (places-are _ a.0) c.bounds_of-bounds.ensures.subject_value c.bounds_of-bounds.ensures.clip_value (flags-at-start _ _ _ _ c.requires.1) (none_yet _ _ _ _ from).0 (none_yet _ _ _ _ from).1 from c.run-last.ensures.result_after _ _ _ _ refl c.outcome_of.ensures c.run-last.ensures.fits.0 c.run-last.ensures.fits.1 c.run-last.auto.taken
