-- The modes of crossing: in which naming two segments are computed with. Plain takes them as they are named. Ordered (02, #102) first turns minus zero
-- into zero, then puts each segment's ends in order of x then y, then the two segments in order of first end, then of second end: so nothing is left
-- of which was named first, of which way each ran, or of a zero's sign (a law: `proofs/KeepsBits`).
use Rattle.std.specs.Prelude.{Bool, true, false, cond, ℕ, eqb}
use Rattle.numbers.specs.Points.{is_ahead, unsigned_point}
use Rattle.numbers.specs.declared.Coordinate.{Coordinate}
use Rattle.crossing.specs.declared.modes.Segment.{Segment}
use Rattle.crossing.specs.declared.modes.Pair.{Pair}

-- a mode is a number; every number but `plain` is ordered
abbrev pub plain : ℕ
plain = 0

abbrev pub ordered : ℕ
ordered = 1

abbrev pub segment : Coordinate → Coordinate → Segment
segment p q = record { from = p; to = q }

abbrev pub pair : Segment → Segment → Pair
pair a b = record { a = a; b = b }

unfoldable pub ends_in_order : Segment → Segment
ends_in_order s = cond (is_ahead s.to s.from) (segment s.to s.from) s

-- by the first end, then the second
unfoldable pub comes_first : Segment → Segment → Bool
comes_first s t = cond (is_ahead s.from t.from) true (cond (is_ahead t.from s.from) false (is_ahead s.to t.to))

unfoldable pub in_order : Segment → Segment → Pair
in_order s t = cond (comes_first t s) (pair t s) (pair s t)

unfoldable pub unsigned_segment : Segment → Segment
unsigned_segment s = segment (unsigned_point s.from) (unsigned_point s.to)

unfoldable pub ordered_pair : Pair → Pair
ordered_pair p = in_order (ends_in_order (unsigned_segment p.a)) (ends_in_order (unsigned_segment p.b))

-- the naming that is computed with
unfoldable pub named_in : ℕ → Pair → Pair
named_in mode p = cond (eqb mode plain) p (ordered_pair p)
