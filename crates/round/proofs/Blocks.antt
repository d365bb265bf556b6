-- Each function of the block against its definition.
use mathlib.Core.Path.{◌≡◌, refl}
use mathlib.Core.Bool.{Bool, true, false, not, ◌&&◌, cond}
use mathlib.Core.List.{List}
use Prim.Native.Nat.{ℕ, zero, suc, ◌+◌, ◌-◌, ◌≤◌, ◌<◌}
use native.Mathlib.Numerals.{add-one, sub-one}
use native.Mathlib.Omega.{arith}
use Rattle.std.specs.List.{list_all, range_with_len}
use Rattle.numbers.specs.declared.Point.{Point}
use Rattle.events.specs.Coordinates.{same, ahead}
use Rattle.events.specs.Binary64.{at_binary64}
use Rattle.rows.specs.Rows.{point_in}
use Rattle.round.specs.Block.{block_start, block_end, stands, in_order}

module _ (at : List (List ℕ)) (p : Point) where
  -- ---- downwards

  pub start_more : (j : ℕ) → 0 < j → block_start at p j ≡ cond (same at_binary64 p (point_in at (j - 1))) (block_start at p (j - 1)) j
  unfolding block_start
  start_more zero h = absurd (omega arith)
  start_more (suc j) h = rw sub-one

  pub start_none : (j : ℕ) → j ≤ 0 → block_start at p j ≡ 0
  unfolding block_start
  start_none zero h = refl
  start_none (suc j) h = absurd (omega arith)

  -- ---- upwards

  pub end_more : (j e : ℕ) → j < e → block_end at p j (e - j) ≡ cond (same at_binary64 p (point_in at j)) (block_end at p (j + 1) (e - (j + 1))) j
  unfolding block_end
  end_more j e h = let q : e - j ≡ suc (e - (j + 1)) = omega arith in rw (q, add-one)

  pub end_none : (j e : ℕ) → e ≤ j → block_end at p j (e - j) ≡ j
  unfolding block_end
  end_none j e h = let q : e - j ≡ 0 = omega arith in rw q

-- ---- the order of the points

module _ (at : List (List ℕ)) where
  pub stands_none : (i : ℕ) → i ≤ 0 → stands at i ≡ true
  unfolding stands
  stands_none zero h = refl
  stands_none (suc i) h = absurd (omega arith)

  pub stands_more : (i : ℕ) → 0 < i → stands at i ≡ not (ahead at_binary64 (point_in at i) (point_in at (i - 1)))
  unfolding stands
  stands_more zero h = absurd (omega arith)
  stands_more (suc i) h = rw sub-one

  pub order_is : (i k : ℕ) → list_all (stands at) (range_with_len i k) ≡ in_order at i k
  unfolding in_order
  order_is i zero = refl
  order_is i (suc k) = rw (order_is (i + 1) k, add-one) (go (stands at i))
    where
      go : (b : Bool) → (b && in_order at (suc i) k) ≡ cond b (in_order at (suc i) k) false
      go true = refl
      go false = refl
