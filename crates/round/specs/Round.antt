-- The definition's searches (`contours.specs.Round`) over the table in lent arrays. What is not found is told as the number of marks: no position
-- beyond them is open, so that no answer means two things.
use Rattle.std.specs.Prelude.{Bool, false, cond, ◌&&◌, List, ◌++◌, ℕ, ◌+◌, ◌-◌, ltb, length, get_or, Option, None, Some}
use Rattle.std.specs.Bool.{beq}
use Rattle.numbers.specs.declared.Point.{Point}
use Rattle.events.specs.Coordinates.{same}
use Rattle.events.specs.Binary64.{at_binary64}
use Rattle.contours.specs.Round.{is_open, seek, rights, lefts, tries}
use Rattle.rows.specs.Rows.{Rows, size, point_at, end_at, table_row}
use Rattle.round.specs.Block.{block_start, block_end}

-- a position, or the number m for none
unfoldable pub found : ℕ → Option ℕ → ℕ
found m None = m
found m (Some i) = i

unfoldable pub mark_in : List ℕ → ℕ → ℕ
mark_in ms i = get_or ms i 1

-- ---- the ends at p that are tried from q, among the rows from lo up to and not with hi

module _ (t : Rows) (p : Point) where
  abbrev pub right_ends : ℕ → ℕ → List ℕ
  right_ends i k = rights (same at_binary64) (size t) (table_row t) p i k

  abbrev pub left_ends : ℕ → ℕ → List ℕ
  left_ends i k = lefts (same at_binary64) (size t) (table_row t) p i k

  -- from a left end, from a right end, and from either
  abbrev pub left_tries : ℕ → ℕ → ℕ → List ℕ
  left_tries lo hi q = left_ends lo (q - lo) ++ (right_ends lo (hi - lo) ++ left_ends (q + 1) (hi - (q + 1)))

  abbrev pub right_tries : ℕ → ℕ → ℕ → List ℕ
  right_tries lo hi q = right_ends (q + 1) (hi - (q + 1)) ++ (left_ends lo (hi - lo) ++ right_ends lo (q - lo))

  unfoldable pub tries_in : ℕ → ℕ → ℕ → List ℕ
  tries_in lo hi q = cond (end_at t q).left (left_tries lo hi q) (right_tries lo hi q)

-- ---- the next position from q

module _ (t : Rows) where
  -- by the rows around q that have its point
  unfoldable pub around : ℕ → List ℕ
  around q = tries_in t (point_at t q) (block_start t.at (point_at t q) q) (block_end t.at (point_at t q) (q + 1) (size t - (q + 1))) q

  -- by those where `near`, by all where not, and for a position beyond the table
  unfoldable pub tried : Bool → ℕ → List ℕ
  tried near q = cond (near && ltb q (size t)) (around q) (tries (same at_binary64) (size t) (table_row t) q)

  unfoldable pub next_pos : Bool → List ℕ → ℕ → ℕ
  next_pos near ms q = found (length ms) (seek ms (tried near q))

-- ---- its parts

-- the end at i is a left end, or a right end, at the point p, and open
unfoldable pub fitting : Rows → List ℕ → Point → Bool → ℕ → Bool
fitting t ms p l i = cond (is_open (mark_in ms i)) (cond (beq (end_at t i).left l) (same at_binary64 p (point_at t i)) false) false

module _ (t : Rows) (ms : List ℕ) (p : Point) where
  -- the first open end among the right ends, and among the left ends
  unfoldable pub rights_from : ℕ → ℕ → ℕ
  rights_from i k = found (length ms) (seek ms (right_ends t p i k))

  unfoldable pub lefts_from : ℕ → ℕ → ℕ
  lefts_from i k = found (length ms) (seek ms (left_ends t p i k))

  -- from a left end at q, from a right end, and from either
  unfoldable pub from_left : ℕ → ℕ → ℕ → ℕ
  from_left lo hi q = found (length ms) (seek ms (left_tries t p lo hi q))

  unfoldable pub from_right : ℕ → ℕ → ℕ → ℕ
  from_right lo hi q = found (length ms) (seek ms (right_tries t p lo hi q))

  unfoldable pub next_in : ℕ → ℕ → ℕ → ℕ
  next_in lo hi q = found (length ms) (seek ms (tries_in t p lo hi q))
