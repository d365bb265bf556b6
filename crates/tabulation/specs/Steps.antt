-- What the steps do: the contracts of private functions. The places q of n ordered records are here an array.
use Rattle.std.specs.Prelude.{◌≡◌, Bool, false, List, map, ℕ, ◌+◌, ◌≤◌, length, None, Option, Some}
use Rattle.std.proofs.lemmas.List.Edits.{sets}
use Rattle.numbers.specs.declared.Point.{Point}
use Rattle.events.specs.Event.{Event}
use Rattle.events.specs.Pool.{Pool, row_at}
use Rattle.checks.specs.Checks.{max_events}
use Rattle.contours.specs.Table.{Below, nothing, over, Row, place, is_out_in, row_of}
use Rattle.positions.specs.Positions.{place_in}
use Rattle.rows.specs.Rows.{Rows, lent, put, end_for}
use Rattle.tabulation.specs.Tabulation.{row_code, at_code}

-- no place is above the limit
pub record Few (q : List ℕ) (n : ℕ) : Type 0 where
  pub each : (r : ℕ) → place_in q n r ≤ max_events

-- q tells the place of every record among s, which are n
pub record Placing (s q : List ℕ) (n : ℕ) : Type 0 where
  pub few : n ≤ max_events
  pub count : n ≡ length s
  pub each : (r : ℕ) → place_in q n r ≡ place s r

-- ---- one row

unfoldable pub below_place : List ℕ → ℕ → Option ℕ → ℕ
below_place q n None = 0
below_place q n (Some b) = place_in q n b + 1

unfoldable pub below_out_in : Pool → Option ℕ → Bool
below_out_in p None = false
below_out_in p (Some b) = is_out_in (row_at p b).transition

unfoldable pub below_in : Pool → List ℕ → ℕ → Option ℕ → Below
below_in p q n None = nothing
below_in p q n (Some b) = over (place_in q n b) (is_out_in (row_at p b).transition)

unfoldable pub row_in : Pool → List ℕ → ℕ → Event Point → Row Point
row_in p q n e = record { point = e.point; left = e.left; other = place_in q n e.partner; below = below_in p q n e.below }

unfoldable pub put_row : Rows → ℕ → Row Point → Rows
put_row t i r = put t i r.point (end_for r)

-- ---- the rows of s

unfoldable pub rows_of : Pool → List ℕ → List (Row Point)
rows_of p s = map (row_of (row_at p) s) s

-- stored from position i on
unfoldable pub puts : Rows → ℕ → List (Row Point) → Rows
puts t i rs = lent (sets t.rows i (map row_code rs)) (sets t.at i (map at_code rs))

unfoldable pub filled : Pool → List ℕ → Rows → Rows
filled p s t = puts t 0 (rows_of p s)
