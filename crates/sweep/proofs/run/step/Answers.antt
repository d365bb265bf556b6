-- The last of the queue is taken and does its work, and the queue stands anew; where there is none, the run has ended.
use mathlib.Core.Path.{sym, ap, ◌∙◌, subst}
use mathlib.Core.List.{[]}
use lib.ListN.{take}
use Rattle.waiting.specs.Queue.{ties_with}
use Rattle.sweep.specs.Turn.{Queues}
use Rattle.sweep.proofs.AtBinary64.{next-at, tie-at, some-wait, step-at, ended_at}
use Rattle.sweep.proofs.Runs.{step-none, step-some, next-waits, taking-room, working-room, queue-room, does-lined, worked-lined, queue-lined, within-lined, fits_on, beyond-on, fits-ended, beyond-ended}
use Rattle.sweep.proofs.run.step.Goals as goal

pub take_event-u-requires : goal.take_event-u-requires
take_event-u-requires c = taking-room _ c.args.status.now _ _ _ c.requires.0 (next-waits _ _ _ _ (sym (c.below_at.ensures ∙ next-at c.requires.1 [] []) ∙ c.in-Some.is))

pub work-v-requires : goal.work-v-requires
work-v-requires c = working-room _ _ c.args.taken.now _ _ c.requires.0 (next-waits _ _ _ _ (sym (c.below_at.ensures ∙ next-at c.requires.1 [] []) ∙ c.in-Some.is)) _ _ c.take_event-u.ensures.value

pub overflow_sub-t : goal.overflow_sub-t
overflow_sub-t c = some-wait c.requires.1 [] [] _ (sym (c.below_at.ensures ∙ next-at c.requires.1 [] []) ∙ c.in-Some.is)

pub requeue-m-requires : goal.requeue-m-requires
requeue-m-requires c = queue-room _ _ _ _ c.requires.1

pub returns-in-None : goal.returns-in-None
returns-in-None c = record { result_after = step-none _ _ _ _ _ _ _ _ _ (c.below_at.ensures ∙ next-at c.requires.1 _ _) _ c.in-None.is c.end.ensures; fits = (fits-ended _ _ c.end.ensures _ _ _ c.requires.0, beyond-ended _ _ c.end.ensures _); queues = subst (Queues _ _ _) (sym c.end.ensures) (ended_at c.requires.1) }

pub returns-in-Some : goal.returns-in-Some
returns-in-Some c =
    let t = c.args.t in
    let q = c.requires.1 in
    let l = take t.members c.args.status.now in
    let k = take t.count c.args.taken.now in
    let e = c.in-Some.is in
    let is = c.below_at.ensures ∙ next-at q l k in
    let found = sym is ∙ e in
    let wait = next-waits _ _ _ _ found in
    let room = taking-room _ _ _ _ _ c.requires.0 wait in
    let take = c.take_event-u.ensures in
    let work = c.work-v in
    let line = c.line_up.ensures in
    let worked = worked-lined _ _ _ line _ work.ensures.worked in
    let tied = c.ties_with-rival.ensures ∙ ap (ties_with _ _) c.lowest_at.ensures ∙ tie-at q l k _ found in
    let turned = step-some _ _ _ _ _ _ _ _ _ is _ _ _ _ _ _ _ _ e tied room.1 take.value take.waits_after.0 take.waits_after.1 (does-lined _ _ _ line _ _ _ _ _ _ work.ensures.does) worked in record {
      result_after = turned;
      fits = (
        fits_on _ _ _ _ _ c.requires.0 wait _ _ take.value _ _ worked take.waits_after.1 _ _ take.waits_after.0 work.auto.status,
        beyond-on _ _ _ _ _ c.requires.0 wait _ _ take.value _ _ worked take.waits_after.1,
      );
      queues = step-at q l k _ _ _ _ found _ _ _ _ _ _ turned (queue-lined _ _ _ line _ _ _ _ _ _ c.requeue-m.ensures.queue_after) (within-lined _ _ _ line _ c.requeue-m.ensures.upper_bound) c.requeue-m.auto.queue;
    }
