-- The invariant: the members of the pairs before the k-th are passed.
use Prim.Native.Nat.{◌+◌, ◌*◌}
use Rattle.events.specs.Pool.{pool}
use Rattle.sweep_events.specs.Clear.{AllPassed}
use Rattle.sweep_events.proofs.clear.after_pairs.Given as goal

abbrev pub invariant-loop-k : goal.invariant-loop-k
invariant-loop-k l = AllPassed (pool l.points l.marks) l.used l.bounds l.status l.from (l.from + 2 * l.k)
