-- What the lent arrays hold when the table (`contours.specs.Table`) of a list stands in them: its first places are used, the others are as lent.
use Rattle.std.specs.Prelude.{Bool, false, cond, List, map, ℕ, leb, ltb, length}
use Rattle.numbers.specs.declared.Point.{Point}
use Rattle.events.specs.Binary64.{at_binary64}
use Rattle.events.specs.Pool.{Pool, row_at}
use Rattle.checks.specs.Checks.{max_events}
use Rattle.contours.specs.Table.{Row, table}
use Rattle.positions.specs.Positions.{in_front, ordered_in, places_in}
use Rattle.rows.specs.Rows.{Rows, lent, point_code, end_code, end_for}

-- the four lent arrays, and the table's size
pub record Tabulated : Type 0 where
  pub order : List ℕ
  pub places : List ℕ
  pub rows : Rows
  pub count : ℕ

abbrev pub tabulated : List ℕ → List ℕ → Rows → ℕ → Tabulated
tabulated o q t n = record { order = o; places = q; rows = t; count = n }

unfoldable pub table_in : Pool → List ℕ → List (Row Point)
table_in p list = table (row_at p) at_binary64 list

-- the numbers of a row
unfoldable pub row_code : Row Point → List ℕ
row_code r = end_code (end_for r)

unfoldable pub at_code : Row Point → List ℕ
at_code r = point_code r.point

-- a table in front of what was lent
unfoldable pub laid : List (Row Point) → Rows → Rows
laid rows t = lent (in_front (map row_code rows) t.rows) (in_front (map at_code rows) t.at)

-- The list is within the limit, and the arrays have a place for each of its entries; the places, for each record of the pool.
unfoldable pub has_room : (list order records places rows at : ℕ) → Bool
has_room list order records places rows at =
    cond (ltb max_events list) false (cond (ltb order list) false (cond (ltb places records) false (cond (ltb rows list) false (leb list at))))

abbrev pub roomy : Pool → (list order places : List ℕ) → Rows → Bool
roomy p list o q t = has_room (length list) (length o) (length p.points) (length q) (length t.rows) (length t.at)

-- Without room nothing is done, and the size told is 0.
unfoldable pub tabulate : Pool → (list order places : List ℕ) → Rows → Tabulated
tabulate p list o q t =
    cond (roomy p list o q t)
    (tabulated (in_front (ordered_in p list) o) (places_in (ordered_in p list) (length q)) (laid (table_in p list) t) (length (ordered_in p list)))
    (tabulated o q t 0)
