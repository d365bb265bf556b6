-- The places are those in what was seen of the order.
use lib.ListN.{take, drop}
use Rattle.positions.specs.Steps.{Placed}
use Rattle.positions.proofs.places.place_each.Given as goal

abbrev pub invariant-loop-k : goal.invariant-loop-k
invariant-loop-k l = Placed (drop l.k (take l.n l.order)) l.k l.fn.places l.places
