-- What the view (`view.specs.View`) shows of the lent arrays: of each contour, the part of the corners from its row's first number up to its second.
use Rattle.std.specs.Prelude.{◌≡◌, List, [], map, ℕ, ◌<◌, ◌≤◌, length, get_or, None, Some}
use Rattle.numbers.specs.declared.Point.{Point}
use Rattle.contours.specs.Outline.{Outline}
use Rattle.contours.specs.Walls.{told_of}
use Rattle.rows.specs.Rows.{point_code}
use Rattle.view.specs.View.{part_of, corner_at}
use Rattle.connection.specs.Connection.{Lent}

unfoldable pub shown_in : Lent → ℕ → List (List ℕ)
shown_in l c = part_of l.corners (get_or (get_or l.contours c []) 0 0) (get_or (get_or l.contours c []) 1 0)

-- the corners of contour c of these
abbrev pub corners_of : List (Outline Point) → ℕ → List Point
corners_of os c = get_or (told_of os).corners c []

-- Each contour's part is all its corners, in their order, and nothing else.
pub record Shown (os : List (Outline Point)) (l : Lent) : Type 0 where
  pub part : (c : ℕ) → c < length os → shown_in l c ≡ map point_code (corners_of os c)
  -- one by one, until there is none
  pub corner : (c i : ℕ) (d : Point) → c < length os → i < length (corners_of os c) → corner_at (shown_in l c) i ≡ Some (get_or (corners_of os c) i d)
  pub beyond : (c i : ℕ) → c < length os → length (corners_of os c) ≤ i → corner_at (shown_in l c) i ≡ None
