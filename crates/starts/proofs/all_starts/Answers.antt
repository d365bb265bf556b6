-- No contour is made yet.
use native.Mathlib.Nat.{sub-zero}
use Rattle.starts.proofs.Steps.{within_none}
use Rattle.starts.proofs.all_starts.Goals as goal

pub loop-i-init : goal.loop-i-init
loop-i-init c = (rw (sub-zero, c.nothing-s.ensures), within_none _ _ c.nothing-s.ensures)
