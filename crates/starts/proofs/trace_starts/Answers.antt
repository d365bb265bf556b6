-- The marks are cleared, and then all positions.
use native.Mathlib.Omega.{arith}
use Rattle.starts.specs.Starts.{traced_on, fits}
use Rattle.starts.proofs.Starts.{trace_is}
use Rattle.starts.proofs.trace_starts.Goals as goal

pub returns : goal.returns
unfolding traced_on fits
returns c = let cleared = c.fill.ensures.after (λ y e. e) in grind (arith, trace_is, cleared)
