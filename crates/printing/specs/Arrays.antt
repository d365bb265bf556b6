-- Contours in lent arrays. A contour's row: its first corner and the place after its last, its parent + 1 or 0, its depth, its first hole and how
-- many it has. A part that is not within its array is shown empty.
use Rattle.std.specs.Prelude.{cond, List, [], ◌∷◌, ◌++◌, map, ℕ, zero, suc, ◌+◌, ltb, length, get_or, take, drop, Option, None, Some}
use Rattle.numbers.specs.declared.Point.{Point}
use Rattle.contours.specs.Outline.{Outline}
use Rattle.view.specs.View.{part_of}
use Rattle.printing.specs.Printing.{Drawn, drawing}

-- how many of the count holes from a place on are within their array
unfoldable pub part_length : (length first count : ℕ) → ℕ
part_length length first count = cond (ltb length (first + count)) 0 count

unfoldable pub part : List ℕ → ℕ → ℕ → List ℕ
part l first count = take (part_length (length l) first count) (drop first l)

unfoldable pub corner_of : List ℕ → Point
corner_of p = record { x = get_or p 0 0; y = get_or p 1 0 }

unfoldable pub parent_of : ℕ → Option ℕ
parent_of zero = None
parent_of (suc p) = Some p

unfoldable pub drawn_row : List (List ℕ) → List ℕ → List ℕ → Drawn
drawn_row corners holes row =
    record {
      parent = parent_of (get_or row 2 0);
      depth = get_or row 3 0;
      holes = part holes (get_or row 4 0) (get_or row 5 0);
      corners = map corner_of (part_of corners (get_or row 0 0) (get_or row 1 0));
    }

-- the text of the first count contours
unfoldable pub printed_arrays : List (List ℕ) → List (List ℕ) → List ℕ → ℕ → List ℕ
printed_arrays corners contours holes count = drawing (map (drawn_row corners holes) (take count contours))

-- ---- arrays as connection writes them: corners one after the other, and so holes

unfoldable pub number_of : Option ℕ → ℕ
number_of None = 0
number_of (Some p) = suc p

unfoldable pub rows_from : (corner hole : ℕ) → List (Outline Point) → List (List ℕ)
rows_from c h [] = []
rows_from c h (o ∷ os) =
    (c ∷ (c + length o.corners) ∷ number_of o.parent ∷ o.depth ∷ h ∷ length o.holes ∷ [])
    ∷ rows_from (c + length o.corners) (h + length o.holes) os

unfoldable pub numbers_of : Point → List ℕ
numbers_of p = p.x ∷ p.y ∷ []

unfoldable pub all_corners : List (Outline Point) → List (List ℕ)
all_corners [] = []
all_corners (o ∷ os) = map numbers_of o.corners ++ all_corners os

unfoldable pub all_holes : List (Outline Point) → List ℕ
all_holes [] = []
all_holes (o ∷ os) = o.holes ++ all_holes os
