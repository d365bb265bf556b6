-- A part of the lent points, and its corners by number, counted from 0.
use Rattle.std.specs.Prelude.{cond, List, [], ℕ, ◌-◌, leb, ltb, length, get_or, take, drop, None, Option, Some}
use Rattle.numbers.specs.declared.Point.{Point}

-- from `first` up to `end`; one that is not within the points is empty
unfoldable pub part_of : List (List ℕ) → (first end : ℕ) → List (List ℕ)
part_of points first end = cond (leb first end) (cond (leb end (length points)) (take (end - first) (drop first points)) []) []

unfoldable pub point_at : List (List ℕ) → ℕ → Point
point_at points i = record { x = get_or (get_or points i []) 0 0; y = get_or (get_or points i []) 1 0 }

unfoldable pub corner_at : List (List ℕ) → ℕ → Option Point
corner_at points i = cond (ltb i (length points)) (Some (point_at points i)) None
