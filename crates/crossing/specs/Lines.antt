-- The two lines (01, 'Crossing': `intersection_impl`). Every sum, difference, product and quotient is binary64's, rounded once.
use Rattle.std.specs.Prelude.{Bool, cond, ◌&&◌, ◌||◌, Float}
use Rattle.std.specs.Float.{binary64}
use Rattle.std.specs.Float.Ieee.{add, sub, mul, div, lt, le, eq}
use Rattle.numbers.specs.Binary64.{zero, one, minimum, maximum}
use Rattle.numbers.specs.declared.Coordinate.{Coordinate}
use Rattle.crossing.specs.declared.LineIntersection.{LineIntersection}
use Rattle.crossing.specs.declared.LineIntersection.TheVariants.{None, Point, Overlap}

abbrev pub cross_product : Coordinate → Coordinate → Float
cross_product a b = sub binary64 (mul binary64 a.x b.y) (mul binary64 a.y b.x)

abbrev pub dot_product : Coordinate → Coordinate → Float
dot_product a b = add binary64 (mul binary64 a.x b.x) (mul binary64 a.y b.y)

-- the point at s along d from p
abbrev pub mid_point : Coordinate → Float → Coordinate → Coordinate
mid_point p s d = record { x = add binary64 p.x (mul binary64 s d.x); y = add binary64 p.y (mul binary64 s d.y) }

unfoldable pub minus : Coordinate → Coordinate → Coordinate
minus p q = record { x = sub binary64 p.x q.x; y = sub binary64 p.y q.y }

-- a parameter along a segment runs from 0 at its first end to 1 at its second
abbrev pub outside : Float → Bool
outside s = lt s zero || lt one s

abbrev pub at_end : Float → Bool
at_end s = eq s zero || eq s one

-- the lines cross, at s along the first segment and at t along the second; an end that is met exactly gives the point
unfoldable pub crossing_at : Coordinate → Coordinate → Float → Coordinate → Coordinate → Float → LineIntersection
crossing_at a1 va s b1 vb t =
    cond (outside s) None
    (cond (outside t) None
    (cond (at_end s) (Point (mid_point a1 s va))
    (cond (at_end t) (Point (mid_point b1 t vb)) (Point (mid_point a1 s va)))))

-- one line, on which the second segment runs from smin to smax along the first
unfoldable pub shared_from : Coordinate → Coordinate → Float → Float → LineIntersection
shared_from a1 va smin smax =
    cond (le smin one && le zero smax)
    (cond (eq smin one) (Point (mid_point a1 smin va))
    (cond (eq smax zero) (Point (mid_point a1 smax va))
    (Overlap (mid_point a1 (maximum smin zero) va) (mid_point a1 (minimum smax one) va))))
    None

-- va and vb run along the segments, e from the first one's start to the second one's: the lines cross where va and vb are not parallel,
-- and are one where e is parallel to va too. The test of parallel is on the square, as in the source.
unfoldable pub along : Coordinate → Coordinate → Coordinate → Coordinate → Coordinate → LineIntersection
along a1 va b1 vb e =
    let kross = cross_product va vb in
    let krossE = cross_product e va in
    let sa = div binary64 (dot_product va e) (dot_product va va) in
    let sb = add binary64 sa (div binary64 (dot_product va vb) (dot_product va va)) in
    cond (lt zero (mul binary64 kross kross))
    (crossing_at a1 va (div binary64 (cross_product e vb) kross) b1 vb (div binary64 krossE kross))
    (cond (lt zero (mul binary64 krossE krossE)) None (shared_from a1 va (minimum sa sb) (maximum sa sb)))

unfoldable pub intersection_impl : Coordinate → Coordinate → Coordinate → Coordinate → LineIntersection
intersection_impl a1 a2 b1 b2 = along a1 (minus a2 a1) b1 (minus b2 b1) (minus b1 a1)
