-- Each return rewrites by the tests that led to it.
use Rattle.segments.specs.Quick.{by_boxes}
use Rattle.segments.proofs.by_boxes.Goals as goal

pub returns-then-is_under : goal.returns-then-is_under
unfolding by_boxes
returns-then-is_under c = rw (← c.is_beside.ensures, c.if-is_beside.true, ← c.is_under.ensures, c.if-is_under.true)

pub returns-then-is_under-2 : goal.returns-then-is_under-2
unfolding by_boxes
returns-then-is_under-2 c =
    rw (
      ← c.is_beside.ensures,
      c.if-is_beside.true,
      ← c.is_under.ensures,
      c.if-is_under.false,
      ← c.less_x.ensures,
      c.if-less_x.true,
      ← c.is_under-then-less_x.ensures,
      c.if-is_under-2.true,
    )

pub returns-else-is_under-2 : goal.returns-else-is_under-2
unfolding by_boxes
returns-else-is_under-2 c =
    rw (
      ← c.is_beside.ensures,
      c.if-is_beside.true,
      ← c.is_under.ensures,
      c.if-is_under.false,
      ← c.less_x.ensures,
      c.if-less_x.true,
      ← c.is_under-then-less_x.ensures,
      c.if-is_under-2.false,
    )

pub returns-else-less_x : goal.returns-else-less_x
unfolding by_boxes
returns-else-less_x c =
    rw (← c.is_beside.ensures, c.if-is_beside.true, ← c.is_under.ensures, c.if-is_under.false, ← c.less_x.ensures, c.if-less_x.false)

pub returns-else-is_beside : goal.returns-else-is_beside
unfolding by_boxes
returns-else-is_beside c = rw (← c.is_beside.ensures, c.if-is_beside.false)
