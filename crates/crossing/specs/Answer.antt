-- The number and the values that stand for each answer of crossing (01, end of 'Forms for each place').
use Rattle.std.specs.Prelude.{ℕ, List, [], ◌∷◌, Float}
use Rattle.crossing.specs.declared.LineIntersection.{LineIntersection}
use Rattle.crossing.specs.declared.LineIntersection.TheVariants.{None, Point, Overlap, Lost}

unfoldable pub number_of : LineIntersection → ℕ
number_of None = 0
number_of (Point p) = 1
number_of (Overlap p q) = 2
number_of Lost = 3

-- its corners, x before y
unfoldable pub values_of : LineIntersection → List Float
values_of None = []
values_of (Point p) = p.x ∷ p.y ∷ []
values_of (Overlap p q) = p.x ∷ p.y ∷ q.x ∷ q.y ∷ []
values_of Lost = []
