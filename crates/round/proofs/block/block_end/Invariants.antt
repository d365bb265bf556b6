-- The rows left from j on end where those from i on end.
use Prim.Native.Nat.{◌-◌}
use mathlib.Core.Path.{◌≡◌}
use Rattle.round.specs.Block.{block_end}
use Rattle.round.proofs.block.block_end.Given as goal

abbrev pub invariant-loop-j : goal.invariant-loop-j
invariant-loop-j l = block_end l.at l.p l.j (l.e - l.j) ≡ block_end l.at l.p l.i (l.e - l.i)
