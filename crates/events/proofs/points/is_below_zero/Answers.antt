-- Each return rewrites by the test that led to it.
use Rattle.std.proofs.Common.{le-ltb, lt-ltb}
use Rattle.events.specs.Runs.{below_zero}
use Rattle.events.proofs.points.is_below_zero.Goals as goal

pub returns-then-w-gt-SIGN : goal.returns-then-w-gt-SIGN
unfolding below_zero
returns-then-w-gt-SIGN c = rw (lt-ltb _ _ c.if-w-gt-SIGN.true)

pub returns : goal.returns
unfolding below_zero
returns c = rw (le-ltb _ _ c.if-w-gt-SIGN.false)
