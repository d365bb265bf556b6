-- What is found from j on is what is found from i on.
use Prim.Native.Nat.{◌-◌}
use mathlib.Core.Path.{◌≡◌}
use Rattle.rows.specs.Rows.{lent}
use Rattle.round.specs.Round.{rights_from}
use Rattle.round.proofs.seek_up.Given as goal

abbrev pub invariant-loop-j : goal.invariant-loop-j
invariant-loop-j l = rights_from (lent l.rows l.at) l.marks l.p l.j (l.e - l.j) ≡ rights_from (lent l.rows l.at) l.marks l.p l.i (l.e - l.i)
