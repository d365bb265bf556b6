-- The rows around a position that have its point. In a table whose points stand in order no other row has it (proofs/InOrder.antt).
use Rattle.std.specs.Prelude.{Bool, true, false, not, cond, List, ℕ, zero, suc}
use Rattle.numbers.specs.declared.Point.{Point}
use Rattle.events.specs.Coordinates.{same, ahead}
use Rattle.events.specs.Binary64.{at_binary64}
use Rattle.rows.specs.Rows.{point_in}

module _ (at : List (List ℕ)) where
  -- the first of the rows straight below i that have the point p; i where there is none
  unfoldable pub block_start : Point → ℕ → ℕ
  block_start p zero = zero
  block_start p (suc i) = cond (same at_binary64 p (point_in at i)) (block_start p i) (suc i)

  -- where those of k rows from i on end
  unfoldable pub block_end : Point → ℕ → ℕ → ℕ
  block_end p i zero = i
  block_end p i (suc k) = cond (same at_binary64 p (point_in at i)) (block_end p (suc i) k) i

  -- the point at i is not ahead of the one below it
  unfoldable pub stands : ℕ → Bool
  stands zero = true
  stands (suc i) = not (ahead at_binary64 (point_in at (suc i)) (point_in at i))

  -- k points from i on
  unfoldable pub in_order : ℕ → ℕ → Bool
  in_order i zero = true
  in_order i (suc k) = cond (stands i) (in_order (suc i) k) false
