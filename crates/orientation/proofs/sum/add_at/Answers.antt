use Rattle.std.proofs.Common.{◌≡◌, ◌+◌, ◌^◌, ◌%◌, ◌<◌, length, get_or, arith, length-set}
use native.Mathlib.Nat.{zero-mul, add-zero}
use native.Mathlib.Numerals.{add-one}
use Rattle.orientation.specs.Words.{value, weight, words}
use Rattle.orientation.proofs.Carries.{weight-suc, value_set, carried, small-set, no-carry}
use Rattle.orientation.proofs.sum.add_at.Goals as goal

pub loop-j-preserved : goal.loop-j-preserved
loop-j-preserved c =
    let l = c.loop-j in
    let x = get_or l.acc l.j 0 in
    let v = (x + l.carry) % 2 ^ 32 in
    let in-it : l.j < length l.acc = omega (arith, l.invariant.0.all) in (
      record { all = simp length-set l.invariant.0.all; small = small-set l.acc l.j v (omega arith) l.invariant.0.small },
      omega (arith, l.invariant.0.small l.j),
      rw (add-one, weight-suc) (carried (value l.acc) _ x l.carry (weight l.j) _ (value_set l.acc l.j v in-it) l.invariant.2),
    )

pub returns-clause-acc_after : goal.returns-clause-acc_after
returns-clause-acc_after c =
    let l = c.loop-j in
    let at-end : l.j ≡ words = omega arith in
    let z : l.carry ≡ 0 = no-carry (value l.acc) l.carry (weight words) _ (rw at-end at l.invariant.2) c.requires.i_bound in
    rw (z, zero-mul, add-zero) at l.invariant.2
