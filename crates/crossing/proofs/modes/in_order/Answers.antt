-- The test decides.
use Rattle.crossing.specs.Modes.{in_order}
use Rattle.crossing.proofs.modes.in_order.Goals as goal

pub returns-then-comes_first : goal.returns-then-comes_first
unfolding in_order
returns-then-comes_first c = rw (← c.comes_first.ensures, c.if-comes_first.true)

pub returns : goal.returns
unfolding in_order
returns c = rw (← c.comes_first.ensures, c.if-comes_first.false)
