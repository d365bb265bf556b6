-- The invariant: the sum, with the carry at the word j, is what was asked for. Past the last word nothing is carried, since it fits.
use mathlib.Core.Path.{◌≡◌}
use Prim.Native.Nat.{◌+◌, ◌*◌, ◌-◌, ◌^◌, ◌≤◌}
use Rattle.orientation.specs.Words.{value, Long, weight}
use Rattle.orientation.proofs.sum.add_at.Given as goal

abbrev pub invariant-loop-j : goal.invariant-loop-j
invariant-loop-j l =
    Long l.acc × (l.carry ≤ 2 ^ 64 - 2 ^ 32) × (value l.acc + l.carry * weight l.j ≡ value l.initial.acc + l.w * weight l.i)
