-- The two signs and the shared end are known at s; each answer then follows the tests.
use Rattle.segments.specs.Segments.{apart}
use Rattle.segments.proofs.old_is_below_off_line.Goals as goal

pub returns-then-same_point : goal.returns-then-same_point
unfolding apart
returns-then-same_point c =
    rw (← c.is_positive-left.ensures, ← c.is_positive-right.ensures, ← c.same_point.ensures, c.if-same_point.true)

pub returns-then-same_x : goal.returns-then-same_x
unfolding apart
returns-then-same_x c =
    rw (
      ← c.is_positive-left.ensures,
      ← c.is_positive-right.ensures,
      ← c.same_point.ensures,
      c.if-same_point.false,
      ← c.same_x.ensures,
      c.if-same_x.true,
      c.less_y.ensures,
    )

pub returns-then-left-right : goal.returns-then-left-right
unfolding apart
returns-then-left-right c =
    rw (
      ← c.is_positive-left.ensures,
      ← c.is_positive-right.ensures,
      ← c.same_point.ensures,
      c.if-same_point.false,
      ← c.same_x.ensures,
      c.if-same_x.false,
      c.if-left-right.true,
    )

pub returns-then-is_zero : goal.returns-then-is_zero
unfolding apart
returns-then-is_zero c =
    rw (
      ← c.is_positive-left.ensures,
      ← c.is_positive-right.ensures,
      ← c.same_point.ensures,
      c.if-same_point.false,
      ← c.same_x.ensures,
      c.if-same_x.false,
      c.if-left-right.false,
      ← c.is_zero.ensures,
      c.if-is_zero.true,
    )

pub returns : goal.returns
unfolding apart
returns c =
    rw (
      ← c.is_positive-left.ensures,
      ← c.is_positive-right.ensures,
      ← c.same_point.ensures,
      c.if-same_point.false,
      ← c.same_x.ensures,
      c.if-same_x.false,
      c.if-left-right.false,
      ← c.is_zero.ensures,
      c.if-is_zero.false,
      c.old_is_below_by_crossing.ensures,
      c.crossing-found.ensures,
    )
