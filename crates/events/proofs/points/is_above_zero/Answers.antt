-- Each return rewrites by the test that led to it.
use Rattle.std.proofs.Common.{le-ltb, lt-ltb}
use Rattle.events.specs.Runs.{above_zero}
use Rattle.events.proofs.points.is_above_zero.Goals as goal

pub returns-then-w-gt0 : goal.returns-then-w-gt0
unfolding above_zero
returns-then-w-gt0 c = rw (lt-ltb _ _ c.if-w-gt0.true)

pub returns : goal.returns
unfolding above_zero
returns c = rw (le-ltb _ _ c.if-w-gt0.false)
