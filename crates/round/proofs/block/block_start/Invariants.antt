-- The rows left below j begin where those below i begin.
use mathlib.Core.Path.{◌≡◌}
use Rattle.round.specs.Block.{block_start}
use Rattle.round.proofs.block.block_start.Given as goal

abbrev pub invariant-loop-j : goal.invariant-loop-j
invariant-loop-j l = block_start l.at l.p l.j ≡ block_start l.at l.p l.i
