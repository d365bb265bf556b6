-- Both ends on the older one's line, or not: the two signs decide which rule is asked.
use Rattle.segments.specs.Segments.{old_below}
use Rattle.segments.proofs.old_is_below.Goals as goal
use Rattle.segments.proofs.old_is_below.Goals.{then-is_zero+else-is_zero-2, else-is_zero}

pub returns-then-is_zero-2 : goal.returns-then-is_zero-2
unfolding old_below
returns-then-is_zero-2 c = rw (← c.turn-sa_l.ensures, ← c.turn-sa_r.ensures, ← c.is_zero.ensures, c.if-is_zero.true, ← c.is_zero-then-is_zero.ensures, c.if-is_zero-2.true, c.old_is_below_on_line.ensures)

pub returns : goal.returns
unfolding old_below
returns c = elim c.if-is_zero.branch [
  | then-is_zero+else-is_zero-2 w ↦ rw (← c.turn-sa_l.ensures, ← c.turn-sa_r.ensures, ← c.is_zero.ensures, w.if-is_zero.true, ← w.is_zero-then-is_zero.ensures, w.if-is_zero-2.false, c.old_is_below_off_line.ensures)
  | else-is_zero w ↦ rw (← c.turn-sa_l.ensures, ← c.turn-sa_r.ensures, ← c.is_zero.ensures, w.if-is_zero.false, c.old_is_below_off_line.ensures)
]
