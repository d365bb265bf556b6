use native.Mathlib.Omega.{arith}
use Rattle.holes.proofs.Holes.{hold-on, hold-end, hold-near}
use Rattle.holes.proofs.hold_all.Goals as goal

pub loop-c-preserved : goal.loop-c-preserved
loop-c-preserved c = (
  hold-on _ _ _ _ _ _ _ _ _ _ c.loop-c-test.true c.loop-c.invariant.0 c.hold-end.ensures,
  omega (arith, hold-near _ _ _ _ _ _ _ _ _ c.hold-end.ensures, c.loop-c.invariant.1, c.requires),
)

pub returns : goal.returns
returns c = hold-end _ _ _ _ _ _ _ c.loop-c-test.false c.loop-c.invariant.0
