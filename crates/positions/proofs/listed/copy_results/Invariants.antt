-- The front of order is what was seen of the list.
use lib.ListN.{take}
use Rattle.events.specs.Pool.{pool}
use Rattle.positions.specs.Steps.{Copied}
use Rattle.positions.proofs.listed.copy_results.Given as goal

abbrev pub invariant-loop-r : goal.invariant-loop-r
invariant-loop-r l = Copied (pool l.points l.marks) (take l.r-index l.list) l.initial.order l.order l.n
