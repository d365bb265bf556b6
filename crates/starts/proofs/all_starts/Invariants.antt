-- What the positions left give from now on is what all give from the start.
use Prim.Native.Nat.{◌-◌}
use mathlib.Core.Path.{◌≡◌}
use lib.ListN.{length}
use Rattle.rows.specs.Rows.{lent}
use Rattle.starts.specs.Starts.{sheet, turn_of}
use Rattle.starts.specs.Steps.{starts, Within}
use Rattle.starts.proofs.all_starts.Given as goal

abbrev pub invariant-loop-i : goal.invariant-loop-i
invariant-loop-i l =
    (starts (lent l.rows l.at) l.near (length l.rows - l.i) l.i (sheet l.walked l.corners l.nests l.s) ≡ starts (lent l.rows l.at) l.near (length l.rows) 0 (sheet l.initial.walked l.initial.corners l.initial.nests (turn_of 0 0 0 0 0)))
    × (Within l.s l.nests l.i)
