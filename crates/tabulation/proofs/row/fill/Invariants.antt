-- Storing the rest of the rows from here on gives what storing all of them gives.
use mathlib.Core.Path.{◌≡◌}
use lib.ListN.{take}
use Rattle.events.specs.Pool.{pool}
use Rattle.rows.specs.Rows.{lent}
use Rattle.tabulation.specs.Steps.{puts, filled}
use Rattle.tabulation.proofs.Filling.{rest_of}
use Rattle.tabulation.proofs.row.fill.Given as goal

abbrev pub invariant-loop-i : goal.invariant-loop-i
invariant-loop-i l =
    puts (lent l.rows l.at) l.i (rest_of (pool l.points l.marks) (take l.n l.order) l.i) ≡ filled (pool l.points l.marks) (take l.n l.order) (lent l.initial.rows l.initial.at)
