-- The box that two segments share, and the clamp of an answer to it (01, 'Crossing': 'boxes', 'clamp').
use Rattle.std.specs.Prelude.{Bool, cond, ◌||◌, Float, Option, None, Some}
use Rattle.std.specs.Float.Ieee.{lt, le, ne}
use Rattle.numbers.specs.Binary64.{minimum, maximum}
use Rattle.numbers.specs.declared.Coordinate.{Coordinate}
use Rattle.numbers.specs.declared.BoundingBox.{BoundingBox}
use Rattle.crossing.specs.declared.LineIntersection.{LineIntersection}
use Rattle.crossing.specs.declared.LineIntersection.TheVariants.{None as Nothing, Point, Overlap, Lost}

-- ---- the box

-- the two ends of a segment in order
abbrev pub lesser : Float → Float → Float
lesser a b = cond (lt a b) a b

abbrev pub greater : Float → Float → Float
greater a b = cond (lt a b) b a

-- a box from its lower left to its upper right corner, if they lie so
unfoldable pub box_from : Coordinate → Coordinate → Option BoundingBox
box_from start end = cond (le start.x end.x) (cond (le start.y end.y) (Some (record { min = start; max = end })) None) None

-- what the boxes of a1-a2 and b1-b2 share, edges included
unfoldable pub shared_box : Coordinate → Coordinate → Coordinate → Coordinate → Option BoundingBox
shared_box a1 a2 b1 b2 =
    box_from
    (record {
      x = maximum (lesser a1.x a2.x) (lesser b1.x b2.x);
      y = maximum (lesser a1.y a2.y) (lesser b1.y b2.y);
    })
    (record {
      x = minimum (greater a1.x a2.x) (greater b1.x b2.x);
      y = minimum (greater a1.y a2.y) (greater b1.y b2.y);
    })

-- ---- the clamp

-- p, or the end of low..high that it has passed; a not-a-number has passed neither
abbrev pub within : Float → Float → Float → Float
within p low high = cond (lt p low) low (cond (lt high p) high p)

unfoldable pub clamp : Coordinate → BoundingBox → Coordinate
clamp p bb = record { x = within p.x bb.min.x bb.max.x; y = within p.y bb.min.y bb.max.y }

unfoldable pub constrained_to : LineIntersection → BoundingBox → LineIntersection
constrained_to Nothing bb = Nothing
constrained_to (Point p) bb = Point (clamp p bb)
constrained_to (Overlap p q) bb = Overlap (clamp p bb) (clamp q bb)
constrained_to Lost bb = Lost

-- ---- Lost (added by 01)

-- a coordinate is not a number: only a not-a-number differs from itself
abbrev pub is_lost : Coordinate → Bool
is_lost p = ne p.x p.x || ne p.y p.y

unfoldable pub or_lost : LineIntersection → LineIntersection
or_lost Nothing = Nothing
or_lost (Point p) = cond (is_lost p) Lost (Point p)
or_lost (Overlap p q) = cond (is_lost p) Lost (cond (is_lost q) Lost (Overlap p q))
or_lost Lost = Lost
