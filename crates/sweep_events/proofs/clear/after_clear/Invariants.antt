-- The invariant: the members from the first place asked up to i are passed.
use Rattle.events.specs.Pool.{pool}
use Rattle.sweep_events.specs.Clear.{AllPassed}
use Rattle.sweep_events.proofs.clear.after_clear.Given as goal

abbrev pub invariant-loop-i : goal.invariant-loop-i
invariant-loop-i l = AllPassed (pool l.points l.marks) l.used l.bounds l.status l.from l.i
