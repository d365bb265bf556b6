-- The first step goes on or has stopped; where it goes on, its new left end is the last place in use.
use mathlib.Core.Path.{◌≡◌}
use Prim.Native.Nat.{◌+◌, ◌-◌}
use native.Mathlib.Omega.{arith}
use Rattle.neighbours.proofs.Steps.{then-on, then-stopped, grown}
use Rattle.neighbours.proofs.step.cut_on.Goals as goal

pub overflow_sub-first : goal.overflow_sub-first
overflow_sub-first c =
    omega (arith, grown _ _ _ _ _ _ _ _ _ c.cut-first.ensures c.in-Ok.is)

pub returns-in-Ok : goal.returns-in-Ok
returns-in-Ok c =
    let new : c.cut-first.result.used - 1 ≡ c.args.used + 1 = omega (arith, grown _ _ _ _ _ _ _ _ _ c.cut-first.ensures c.in-Ok.is) in
    then-on _ _ _ _ _ _ _ _ _ c.cut-first.ensures _ _ _ c.in-Ok.is (rw new at c.cut.ensures)

pub returns-in-Err : goal.returns-in-Err
returns-in-Err c = then-stopped _ _ _ _ _ _ _ _ _ c.cut-first.ensures _ _ _ c.in-Err.is
