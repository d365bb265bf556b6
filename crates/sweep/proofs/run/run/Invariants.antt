-- The invariant, backwards: what is left of the run from here is the whole of it from the start.
use mathlib.Core.Path.{◌≡◌}
use Prim.Native.Nat.{◌-◌}
use lib.ListN.{take}
use Rattle.events.specs.Binary64.{at_binary64, in_mode}
use Rattle.events.specs.Pool.{pool, stored}
use Rattle.sweep.specs.Bounds.{reach_of, is_past}
use Rattle.sweep.specs.Run as Spec
use Rattle.sweep.specs.Turn.{state, Fits, Queues, Beyond}
use Rattle.sweep.proofs.run.run.Given as goal

abbrev pub invariant-loop : goal.invariant-loop
invariant-loop l = record {
  left : Spec.run at_binary64 stored (in_mode l.mode) l.operation (is_past at_binary64 l.operation (reach_of l.bounds.subject) (reach_of l.bounds.clip)) (l.steps - l.counter) (state (pool l.points l.marks) l.waits (take l.now.members l.status) (take l.now.count l.taken) l.now)
      ≡ Spec.run at_binary64 stored (in_mode l.mode) l.operation (is_past at_binary64 l.operation (reach_of l.bounds.subject) (reach_of l.bounds.clip)) l.steps (state (pool l.initial.points l.initial.marks) l.initial.waits (take l.initial.now.members l.initial.status) (take l.initial.now.count l.initial.taken) l.initial.now);
  fits : Fits l.waits l.status l.taken l.now;
  beyond : Beyond l.initial.taken l.taken l.initial.now l.now;
  queues : Queues (pool l.points l.marks) l.waits l.queue l.now;
}
