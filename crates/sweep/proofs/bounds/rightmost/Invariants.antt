-- The invariant: the reach of the records below r.
use mathlib.Core.Path.{◌≡◌}
use Rattle.events.specs.Binary64.{at_binary64}
use Rattle.events.specs.Pool.{pool, row_at}
use Rattle.sweep.specs.Bounds.{reach_of}
use Rattle.sweep.specs.Bounds as Spec
use Rattle.sweep.proofs.bounds.rightmost.Given as goal

abbrev pub invariant-loop-r : goal.invariant-loop-r
invariant-loop-r l = reach_of l.reach ≡ Spec.rightmost at_binary64 (row_at (pool l.points l.marks)) l.subject l.r
