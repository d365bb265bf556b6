-- Points of words as a kind of coordinate: each word is read as binary64 (`Rattle.std.specs.Float` calls the format `binary64`), and the crossing on them in each mode.
-- This is the one place that says what a word means; another kind of coordinate is another such page.
use Rattle.std.specs.Prelude.{ℕ, not, ◌&&◌, from_bits, to_bits}
use Rattle.std.specs.Float.{binary64}
use Rattle.std.specs.Float.Ieee.{lt, eq}
use Rattle.numbers.specs.Next.{next_up}
use Rattle.numbers.specs.Words.{value, unfit_word, unsigned_word, value_of, words_of}
use Rattle.numbers.specs.declared.Point.{Point}
use Rattle.orientation.specs.Orientation.{signed_area}
use Rattle.crossing.specs.declared.LineIntersection.{LineIntersection}
use Rattle.crossing.specs.declared.LineIntersection.TheVariants.{None, Point as OnePoint, Overlap, Lost}
use Rattle.crossing.specs.Crossing.{intersection_in}
use Rattle.events.specs.declared.points.Meeting.{Meeting}
use Rattle.events.specs.declared.points.Meeting.TheVariants.{Nothing, At, Along, Lost as LostMeeting}
use Rattle.events.specs.Coordinates.{Coordinates, Cross, none, lost, point, overlap, Crossing}

unfoldable pub at_binary64 : Coordinates Point
at_binary64 =
    record {
      fit = λ p. not (unfit_word p.x) && not (unfit_word p.y);
      less_x = λ p q. lt (value p.x) (value q.x);
      less_y = λ p q. lt (value p.y) (value q.y);
      same_x = λ p q. eq (value p.x) (value q.x);
      same_y = λ p q. eq (value p.y) (value q.y);
      turn = λ p q r. signed_area (value_of p) (value_of q) (value_of r);
      next_x = λ p. record { x = to_bits binary64 (next_up (from_bits binary64 p.x)); y = p.y };
    }

-- what loading stores of a point: minus zero as zero
unfoldable pub as_loaded : Point → Point
as_loaded p = record { x = unsigned_word p.x; y = unsigned_word p.y }

unfoldable pub cross_of : LineIntersection → Cross Point
cross_of None = none
cross_of (OnePoint p) = point (words_of p)
cross_of (Overlap p q) = overlap (words_of p) (words_of q)
cross_of Lost = lost

-- the crossing in a mode: `plain` as the source computes it, `ordered` whichever way the segments are named
unfoldable pub in_mode : ℕ → Crossing Point
in_mode mode a1 a2 b1 b2 = cross_of (intersection_in mode (value_of a1) (value_of a2) (value_of b1) (value_of b2))

-- the enum of the code
unfoldable pub shown_meeting : Meeting → Cross Point
shown_meeting Nothing = none
shown_meeting (At p) = point p
shown_meeting (Along p q) = overlap p q
shown_meeting LostMeeting = lost
