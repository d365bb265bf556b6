-- Seen along a segment from (ax, ay) to (bx, by), a point (cx, cy) beside it lies on the left if it is higher than both ends, and on the right if it is
-- lower: the two halves of the turn differ by (bx-cx)(cy-ay) + (cx-ax)(cy-by).
use mathlib.Core.Path.{◌≡◌}
use Prim.Native.Nat.{ℕ, ◌+◌, ◌-◌, ◌*◌, ◌<◌, ◌≤◌}
use native.Mathlib.Nat.{add-mul, mul-add, mul-suc, mul-le-mul_left}
use native.Mathlib.Omega.{arith}

-- a product with u grows by at least u where the other factor grows
grown : (u i j : ℕ) → i < j → u * i + u ≤ u * j
grown u i j h = rw (← mul-suc u i) (mul-le-mul_left u h)

-- t is cx - ax, and u is bx - cx
module _ (ax ay bx by cx cy t u : ℕ) (some : 0 < t + u) (start : cx ≡ ax + t) (end : bx ≡ ax + t + u) where
  left_by_lem : ay < cy → by < cy → ay * bx + by * cx + cy * ax < ax * by + bx * cy + cx * ay
  left_by_lem h k = rw (start, end) (simp (add-mul, mul-add) (omega (arith, grown u ay cy h, grown t by cy k, some)))

  right_by : cy < ay → cy < by → ax * by + bx * cy + cx * ay < ay * bx + by * cx + cy * ax
  right_by h k = rw (start, end) (simp (add-mul, mul-add) (omega (arith, grown u cy ay h, grown t cy by k, some)))

module _ (ax ay bx by cx cy : ℕ) (wide : ax < bx) (from : ax ≤ cx) (within : cx ≤ bx) where
  pub left : ay < cy → by < cy → ay * bx + by * cx + cy * ax < ax * by + bx * cy + cx * ay
  left = left_by_lem ax ay bx by cx cy (cx - ax) (bx - cx) (omega arith) (omega arith) (omega arith)

  pub right : cy < ay → cy < by → ax * by + bx * cy + cx * ay < ay * bx + by * cx + cy * ax
  right = right_by ax ay bx by cx cy (cx - ax) (bx - cx) (omega arith) (omega arith) (omega arith)
