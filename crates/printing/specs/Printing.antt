-- What is printed (01, 'The sheet'): contours, each with its parent, depth, holes and points, or a refusal. All of the text is here.
use Rattle.refusals.specs.Refusals.{number}
use Rattle.std.specs.Prelude.{List, [], ◌∷◌, ◌++◌, map, ℕ, length, Option, None, Some}
use Rattle.refusals.specs.declared.Refusal.{Refusal}
use Rattle.numbers.specs.declared.Point.{Point}
use Rattle.text.specs.Digits.{decimal, hex}
use Rattle.text.specs.Quoted.{quoted}
use Rattle.contours.specs.Outline.{Outline}
use Rattle.sheet.specs.Sheet.{count_line, number_bytes}

-- what is told of a contour, its corners as they stand
pub record Drawn : Type 0 where
  pub parent : Option ℕ
  pub depth : ℕ
  pub holes : List ℕ
  pub corners : List Point

-- ---- its lines

unfoldable pub parent_bytes : Option ℕ → List ℕ
parent_bytes None = quoted "-"
parent_bytes (Some p) = decimal p

unfoldable pub head_line : Option ℕ → ℕ → List ℕ
head_line parent depth = quoted "parent " ++ (parent_bytes parent ++ count_line (quoted " depth ") depth)

-- a number a line
unfoldable pub hole_lines : List ℕ → List ℕ
hole_lines [] = []
hole_lines (h ∷ l) = count_line [] h ++ hole_lines l

unfoldable pub corner_line : Point → List ℕ
corner_line p = hex p.x ++ (number_bytes p.y ++ (10 ∷ []))

unfoldable pub corner_lines : List Point → List ℕ
corner_lines [] = []
corner_lines (p ∷ l) = corner_line p ++ corner_lines l

unfoldable pub contour_lines : Drawn → List ℕ
contour_lines d =
    head_line d.parent d.depth
    ++ (count_line (quoted "holes ") (length d.holes) ++ (hole_lines d.holes ++ (count_line (quoted "points ") (length d.corners) ++ corner_lines d.corners)))

unfoldable pub contours_lines : List Drawn → List ℕ
contours_lines [] = []
contours_lines (d ∷ l) = contour_lines d ++ contours_lines l

unfoldable pub drawing : List Drawn → List ℕ
drawing l = count_line (quoted "contours ") (length l) ++ contours_lines l

-- ---- of connection's contours

unfoldable pub drawn : Outline Point → Drawn
drawn o = record { parent = o.parent; depth = o.depth; holes = o.holes; corners = o.corners }

unfoldable pub printed : List (Outline Point) → List ℕ
printed os = drawing (map drawn os)

-- ---- a refusal, and nothing else

-- by any number
unfoldable pub refused_line : (told place : ℕ) → List ℕ
refused_line told place = quoted "refused " ++ (decimal told ++ count_line (quoted " at ") place)

unfoldable pub refusal_line : Refusal → List ℕ
refusal_line r = refused_line (number r.reason) r.place
