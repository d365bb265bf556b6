-- What a division leaves, record by record: `row` reads a record before it, `row'` after it.
use Rattle.std.specs.Prelude.{◌≡◌, ◌≢◌, Bool, true, false, cond, ℕ, ◌+◌, ◌<◌}
use Rattle.events.specs.Event.{Event}
use Rattle.division.specs.Division.{new_end, linked}

-- The segment of record i is cut at c; keep: the flags of the second half stay as they are. Four records, and all others as before.
pub record Parted {P : Type 0} (row row' : ℕ → Event P) (used i : ℕ) (c : P) (keep : Bool) : Type 0 where
  pub right : row' used ≡ new_end (row i) c false i
  pub left : row' (used + 1) ≡ new_end (row i) c keep (row i).partner
  pub own : row' i ≡ linked (row i) used (row i).left
  pub other : row' (row i).partner ≡ linked (row (row i).partner) (used + 1) (cond keep (row (row i).partner).left true)
  pub rest : (r : ℕ) → r ≢ used → r ≢ used + 1 → r ≢ i → r ≢ (row i).partner → row' r ≡ row r

-- record r is one of the first n, and so is its partner, whose partner it is
pub record Paired {P : Type 0} (row : ℕ → Event P) (n r : ℕ) : Type 0 where
  pub own : r < n
  pub other : (row r).partner < n
  pub back : (row (row r).partner).partner ≡ r
