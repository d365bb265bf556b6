-- Points of two numbers: their order, and their zeros without a sign.
use Rattle.std.specs.Prelude.{Bool, true, false, cond}
use Rattle.std.specs.Float.Ieee.{lt}
use Rattle.numbers.specs.declared.Coordinate.{Coordinate}
use Rattle.numbers.specs.Binary64.{unsigned}

-- earlier by x, then y
unfoldable pub is_ahead : Coordinate → Coordinate → Bool
is_ahead p q = cond (lt p.x q.x) true (cond (lt q.x p.x) false (lt p.y q.y))

unfoldable pub unsigned_point : Coordinate → Coordinate
unsigned_point p = record { x = unsigned p.x; y = unsigned p.y }
