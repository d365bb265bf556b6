-- Round a point (`precompute_iteration_order`, `get_next_pos`): right ends upwards, then left ends downwards, and round again.
-- A table is here its size n and its rows as a function of the position.
use Rattle.std.specs.Prelude.{Bool, true, false, not, cond, ◌&&◌, List, [], ◌∷◌, ◌++◌, ℕ, zero, suc, ◌+◌, ◌-◌, get_or, Option, None, Some}
use Rattle.checks.specs.Numbers.{numbers_from}
use Rattle.contours.specs.Result.{keep}
use Rattle.contours.specs.Table.{Row}

-- k positions downwards to i; upwards from i they are `numbers_from i k`
unfoldable pub down : ℕ → ℕ → List ℕ
down i zero = []
down i (suc k) = (i + k) ∷ down i k

-- Marks, one for each position: 0 for one that is not yet walked, c + 1 for one that is walked in contour c.
unfoldable pub is_open : ℕ → Bool
is_open zero = true
is_open (suc c) = false

-- the first position of a list that is not yet walked; one outside the marks counts as walked
unfoldable pub seek : List ℕ → List ℕ → Option ℕ
seek ms [] = None
seek ms (i ∷ l) = cond (is_open (get_or ms i 1)) (Some i) (seek ms l)

module _ {P : Type 0} (same : P → P → Bool) (n : ℕ) (row : ℕ → Row P) where
  -- the right ends at p among k positions from i on, upwards; the left ends, downwards
  unfoldable pub rights : P → ℕ → ℕ → List ℕ
  rights p i k = keep (λ j. same p (row j).point && not (row j).left) (numbers_from i k)

  unfoldable pub lefts : P → ℕ → ℕ → List ℕ
  lefts p i k = keep (λ j. same p (row j).point && (row j).left) (down i k)

  -- the positions that `get_next_pos` tries from q, in its order: round the point of q, from q on until q
  unfoldable pub tries : ℕ → List ℕ
  tries q =
      cond (row q).left
      (lefts (row q).point 0 q ++ (rights (row q).point 0 n ++ lefts (row q).point (q + 1) (n - (q + 1))))
      (rights (row q).point (q + 1) (n - (q + 1)) ++ (lefts (row q).point 0 n ++ rights (row q).point 0 q))
