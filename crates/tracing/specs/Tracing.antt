-- The contours of a table (`contours.specs.Contours`, `contours.specs.Outline`) as the lent arrays hold them: the corners of one contour after those
-- of another, a row for each contour, the holes of one after those of another. What is beyond an array is not stored; all other places stay as lent.
use Rattle.refusals.specs.Refusals.{number}
use Rattle.std.specs.Prelude.{Bool, cond, ◌&&◌, List, [], ◌∷◌, ◌++◌, map, ℕ, ◌+◌, length, eqb, leb}
use Rattle.std.proofs.lemmas.List.Edits.{sets}
use Rattle.numbers.specs.declared.Point.{Point}
use Rattle.events.specs.Coordinates.{same}
use Rattle.events.specs.Binary64.{at_binary64}
use Rattle.checks.specs.Checks.{max_events}
use Rattle.contours.specs.Table.{Row}
use Rattle.contours.specs.Contours.{Answer, done, halted, trace}
use Rattle.contours.specs.Outline.{Outline, outlines, open_count, corner_count, hole_count}
use Rattle.rows.specs.Rows.{Rows, size, point_code, table_row}
use Rattle.starts.specs.Starts.{code_of}
use Rattle.tracing.specs.declared.Traced.{Traced}

-- the lent arrays, and what is told
pub record Sheet : Type 0 where
  pub walked : List ℕ
  pub corners : List (List ℕ)
  pub contours : List (List ℕ)
  pub holes : List ℕ
  pub told : Traced

abbrev pub sheet : List ℕ → List (List ℕ) → List (List ℕ) → List ℕ → Traced → Sheet
sheet m o k h r = record { walked = m; corners = o; contours = k; holes = h; told = r }

abbrev pub told : ℕ → ℕ → ℕ → ℕ → ℕ → ℕ → Traced
told k c h u s p = record { contours = k; corners = c; holes = h; unclosed = u; stop = s; place = p }

-- ---- outlines in the arrays

unfoldable pub corners_in : List (Outline Point) → List (List ℕ)
corners_in [] = []
corners_in (o ∷ os) = map point_code o.corners ++ corners_in os

unfoldable pub holes_in : List (Outline Point) → List ℕ
holes_in [] = []
holes_in (o ∷ os) = o.holes ++ holes_in os

-- the row of an outline whose first corner is at e, its first hole at h
unfoldable pub row_in : ℕ → ℕ → Outline Point → List ℕ
row_in e h o = e ∷ (e + length o.corners) ∷ code_of o.parent ∷ o.depth ∷ h ∷ length o.holes ∷ []

unfoldable pub rows_in : ℕ → ℕ → List (Outline Point) → List (List ℕ)
rows_in e h [] = []
rows_in e h (o ∷ os) = row_in e h o ∷ rows_in (e + length o.corners) (h + length o.holes) os

-- the arrays that were lent, once these outlines are in them
unfoldable pub written : List (List ℕ) → List (List ℕ) → List ℕ → List ℕ → List (Outline Point) → ℕ → ℕ → Sheet
written corners contours holes ms os stop place =
    sheet ms (sets corners 0 (corners_in os)) (sets contours 0 (rows_in 0 0 os)) (sets holes 0 (holes_in os))
    (told (length os) (corner_count os) (hole_count os) (open_count os) stop place)

-- ---- the whole

-- of a table by its size and its rows, with the refusal's number and position, or 0
module _ (n : ℕ) (row : ℕ → Row Point) (corners : List (List ℕ)) (contours : List (List ℕ)) (holes : List ℕ) where
  unfoldable pub answered : Answer → Sheet
  answered (done ms cs) = written corners contours holes ms (outlines (same at_binary64) n row cs) 0 0
  answered (halted reason i ms cs) = written corners contours holes ms (outlines (same at_binary64) n row cs) (number reason) i

  unfoldable pub traced_all : Sheet
  traced_all = answered (trace (same at_binary64) n row)

module _ (t : Rows) where
  -- not more rows than records, and as many marks as rows
  unfoldable pub fits : List ℕ → Bool
  fits walked = leb (size t) max_events && eqb (length walked) (size t)

  unfoldable pub traced_on : List ℕ → List (List ℕ) → List (List ℕ) → List ℕ → Sheet
  traced_on walked corners contours holes =
      cond (fits walked) (traced_all (size t) (table_row t) corners contours holes) (sheet walked corners contours holes (told 0 0 0 0 0 0))
