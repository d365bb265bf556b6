-- What the contours from c on make of the arrays now is what all make of them as lent.
use Prim.Native.Nat.{◌-◌, ◌*◌, ◌≤◌}
use mathlib.Core.Path.{◌≡◌}
use Rattle.holes.specs.Holes.{held_from}
use Rattle.holes.proofs.hold_all.Given as goal

abbrev pub invariant-loop-c : goal.invariant-loop-c
invariant-loop-c l =
    (held_from l.nests l.count (l.count - l.c) l.c l.contours l.holes l.end ≡ held_from l.nests l.count l.count 0 l.initial.contours l.initial.holes 0) × (l.end ≤ 4096 * l.c)
