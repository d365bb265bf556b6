-- What the contours from j on add to the holes now is what all add to them as lent.
use Prim.Native.Nat.{◌-◌, ◌+◌, ◌≤◌}
use mathlib.Core.Path.{◌≡◌}
use Rattle.holes.specs.Holes.{piled, holes_at}
use Rattle.holes.proofs.holes_of.Given as goal

abbrev pub invariant-loop-j : goal.invariant-loop-j
invariant-loop-j l =
    (piled l.holes l.end (holes_at l.nests l.c (l.count - l.j) l.j) ≡ piled l.initial.holes l.first (holes_at l.nests l.c l.count 0)) × (l.end ≤ l.first + l.j)
