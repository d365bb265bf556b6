-- What is found below j is what is found below e.
use Prim.Native.Nat.{◌-◌}
use mathlib.Core.Path.{◌≡◌}
use Rattle.rows.specs.Rows.{lent}
use Rattle.round.specs.Round.{lefts_from}
use Rattle.round.proofs.seek_down.Given as goal

abbrev pub invariant-loop-j : goal.invariant-loop-j
invariant-loop-j l = lefts_from (lent l.rows l.at) l.marks l.p l.i (l.j - l.i) ≡ lefts_from (lent l.rows l.at) l.marks l.p l.i (l.e - l.i)
