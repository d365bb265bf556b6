-- Connection of a pool starts with these checks.
use mathlib.Core.Path.{◌≡◌, refl}
use mathlib.Core.List.{List}
use Prim.Native.Nat.{ℕ}
use Rattle.events.specs.Binary64.{at_binary64}
use Rattle.events.specs.Pool.{Pool, stored}
use Rattle.contours.specs.Connect.{connect, after_checks}
use Rattle.contours.specs.OnPool.{connect_pool}
use Rattle.acceptance.specs.OnPool.{room, accept_pool}

pub checks-first : (p : Pool) (list : List ℕ) (corners contours holes : ℕ)
    → connect_pool p list (room corners contours holes) ≡ after_checks at_binary64 stored p list (accept_pool p list corners contours holes)
unfolding connect_pool connect accept_pool stored
checks-first p list corners contours holes = refl
