-- The invariant: from the word i on, both come to the same number.
use mathlib.Core.Path.{◌≡◌}
use lib.ListN.{drop}
use Rattle.orientation.specs.Words.{value}
use Rattle.orientation.proofs.sum.compare.Given as goal

abbrev pub invariant-loop-i : goal.invariant-loop-i
invariant-loop-i l = value (drop l.i l.p) ≡ value (drop l.i l.n)
