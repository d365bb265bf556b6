-- What refusals 1, 2 and 4 leave: arrays of one size within the limit, and records of which each fits its partner and the edge below.
use Rattle.std.specs.Prelude.{◌≡◌, true, not, ℕ, ◌<◌, ◌≤◌, Some}
use Rattle.events.specs.Coordinates.{Coordinates}
use Rattle.events.specs.Event.{Event}
use Rattle.checks.specs.Checks.{max_events, in_order}

-- the sizes of the two arrays
pub record Sized (points marks : ℕ) : Type 0 where
  pub equal : points ≡ marks
  pub few : points ≤ max_events

-- a left record of the pool
pub record LeftIn {P : Type 0} (row : ℕ → Event P) (n b : ℕ) : Type 0 where
  pub inside : b < n
  pub left : (row b).left ≡ true

-- a record that neither 2 nor 4 strikes
pub record Sound {P : Type 0} (C : Coordinates P) (row : ℕ → Event P) (n r : ℕ) : Type 0 where
  pub inside : r < n
  pub fit : C.fit (row r).point ≡ true
  pub partner : (row r).partner < n
  pub paired : (row (row r).partner).partner ≡ r
  -- one is left and the other right
  pub unlike : (row (row r).partner).left ≡ not (row r).left
  pub ordered : in_order C row r ≡ true
  pub below : (b : ℕ) → (row r).below ≡ Some b → LeftIn row n b

-- a record and its partner
pub record Pair {P : Type 0} (C : Coordinates P) (row : ℕ → Event P) (n r : ℕ) : Type 0 where
  pub own : Sound C row n r
  pub other : Sound C row n (row r).partner
