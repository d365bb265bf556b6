use native.Mathlib.Omega.{arith}
use Rattle.holes.proofs.Holes.{pile-on, pile-end, add-near}
use Rattle.holes.proofs.holes_of.Goals as goal

pub loop-j-preserved : goal.loop-j-preserved
loop-j-preserved c = (
  pile-on _ _ _ _ _ _ _ _ _ c.loop-j-test.true c.loop-j.invariant.0 c.add_hole-end.ensures,
  omega (arith, add-near _ _ _ _ _ _ _ c.add_hole-end.ensures, c.loop-j.invariant.1),
)

pub returns : goal.returns
returns c = pile-end _ _ _ _ _ _ _ c.loop-j-test.false c.loop-j.invariant.0
