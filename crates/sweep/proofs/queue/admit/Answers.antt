-- The record goes in, and its partner by the test.
use mathlib.Core.Path.{ap}
use native.Mathlib.Omega.{arith}
use Rattle.numbers.specs.declared.Point.{Point}
use Rattle.events.specs.Event.{Event}
use Rattle.sweep.proofs.Queued.{admit-old, admit-alone}
use Rattle.sweep.proofs.queue.admit.Goals as goal

pub returns-then-is_older-clause-queue_after : goal.returns-then-is_older-clause-queue_after
returns-then-is_older-clause-queue_after c =
    admit-old _ _ _ _ _ _ _ _ _ (ap (λ (e : Event Point). e.partner) c.read_used-f.ensures) c.put-m.ensures.queue_after c.is_older.ensures c.if-is_older.true _ _ (omega arith) c.put.ensures.queue_after

pub returns-clause-queue_after : goal.returns-clause-queue_after
returns-clause-queue_after c =
    admit-alone _ _ _ _ _ _ _ _ _ (ap (λ (e : Event Point). e.partner) c.read_used-f.ensures) c.put-m.ensures.queue_after c.is_older.ensures c.if-is_older.false
