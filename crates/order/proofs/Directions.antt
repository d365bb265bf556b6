-- Directions from one point of the grid: of edges that all leave it to one side, 'runs at most as high as' is transitive. A cross product is
-- compared by its two halves, so that nothing is below zero.
use mathlib.Core.Logic.{◌⊎◌, inl, inr}
use Prim.Native.Nat.{ℕ, zero, suc, ◌+◌, ◌*◌, ◌≤◌, ◌<◌}
use native.Mathlib.Nat.{mul-le-mul_right, mul-le-mul_left, le_of_mul-le-mul_left}
use native.Mathlib.Omega.{arith}

-- the direction that goes x to the side and ends at the height y is at most as steep as that of v and w; all start at the height q
module _ (q : ℕ) where
  abbrev pub Flat : ℕ → ℕ → ℕ → ℕ → Type 0
  Flat x y v w = y * v + x * q ≤ x * w + v * q

  by_side : (x y v w m n : ℕ) → 0 < v → Flat x y v w → Flat v w m n → Flat x y m n
  by_side x y v w m n p h k = le_of_mul-le-mul_left {k = v} (omega (arith, mul-le-mul_right m h, mul-le-mul_right x k)) p

  -- what leaves a left end does not go to the side only if it goes up
  abbrev pub Up : ℕ → ℕ → Type 0
  Up x y = (0 < x) ⊎ (q < y)

  pub up-trans : (x y v w m n : ℕ) → Up v w → Up m n → Flat x y v w → Flat v w m n → Flat x y m n
  up-trans x y (suc v) w m n b c h k = by_side x y (suc v) w m n (omega arith) h k
  up-trans x y zero w m n (inl p) c h k = absurd (omega arith)
  up-trans x y zero w zero n (inr p) (inl r) h k = absurd (omega arith)
  up-trans x y zero w zero n (inr p) (inr r) h k = omega (arith, mul-le-mul_left x r)
  up-trans x y zero w (suc m) n (inr p) c h k = absurd (omega (arith, k, mul-le-mul_right (suc m) p))

  -- and from a right end only if it goes down
  abbrev pub Down : ℕ → ℕ → Type 0
  Down x y = (0 < x) ⊎ (y < q)

  pub down-trans : (x y v w m n : ℕ) → Down x y → Down v w → Flat x y v w → Flat v w m n → Flat x y m n
  down-trans x y (suc v) w m n a b h k = by_side x y (suc v) w m n (omega arith) h k
  down-trans x y zero w m n a (inl p) h k = absurd (omega arith)
  down-trans zero y zero w m n (inl r) (inr p) h k = absurd (omega arith)
  down-trans zero y zero w m n (inr r) (inr p) h k = omega (arith, mul-le-mul_right m r)
  down-trans (suc x) y zero w m n a (inr p) h k = absurd (omega (arith, h, mul-le-mul_left (suc x) p))
