-- What the edges left give from now on is what all give from the start.
use Prim.Native.Nat.{◌+◌, ◌-◌}
use mathlib.Core.Path.{◌≡◌}
use lib.ListN.{length}
use Rattle.rows.specs.Rows.{lent}
use Rattle.walks.specs.Walks.{edges_from}
use Rattle.walks.proofs.edges_from.Given as goal

abbrev pub invariant-loop-end : goal.invariant-loop-end
invariant-loop-end l =
    edges_from (lent l.rows l.at) l.home l.near l.c (l.first + length l.rows - l.end) l.walked l.corners l.end l.last l.pos ≡ edges_from (lent l.rows l.at) l.home l.near l.c (length l.rows) l.initial.walked l.initial.corners l.first 0 l.start
