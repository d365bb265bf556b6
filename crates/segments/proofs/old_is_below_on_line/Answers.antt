-- Layer, shared end and ring decide in turn.
use Rattle.segments.specs.Segments.{alongside}
use Rattle.segments.proofs.old_is_below_on_line.Goals as goal

pub returns-then-same_point : goal.returns-then-same_point
unfolding alongside
returns-then-same_point c = rw (c.if-old-new.true, ← c.same_point.ensures, c.if-same_point.true)

pub returns-then-old-new : goal.returns-then-old-new
unfolding alongside
returns-then-old-new c = rw (c.if-old-new.true, ← c.same_point.ensures, c.if-same_point.false)

pub returns : goal.returns
unfolding alongside
returns c = rw c.if-old-new.false
