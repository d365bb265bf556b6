-- The walk ends within the limit.
use native.Mathlib.Omega.{arith}
use Rattle.starts.proofs.Steps.{walk_end}
use Rattle.starts.proofs.start.make.Goals as goal

pub overflow_cast-end : goal.overflow_cast-end
overflow_cast-end c =
    let p = c.requires in
    omega (arith, walk_end _ _ _ _ _ _ _ _ _ _ c.walk_from-walk.ensures, p.2, p.3)
