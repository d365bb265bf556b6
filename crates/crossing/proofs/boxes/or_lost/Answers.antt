-- The case that was matched picks the definition's line, and each corner's test decides it.
use Rattle.crossing.specs.Boxes.{or_lost}
use Rattle.crossing.proofs.boxes.or_lost.Goals as goal

pub returns-then-lost : goal.returns-then-lost
unfolding or_lost
returns-then-lost c = rw (c.in-Point.is, ← c.lost.ensures, c.if-lost.true)

pub returns-then-lost-2 : goal.returns-then-lost-2
unfolding or_lost
returns-then-lost-2 c = rw (c.in-Overlap.is, ← c.lost-in-Overlap.ensures, c.if-lost-2.true)

pub returns-then-lost-3 : goal.returns-then-lost-3
unfolding or_lost
returns-then-lost-3 c = rw (c.in-Overlap.is, ← c.lost-in-Overlap.ensures, c.if-lost-2.false, ← c.lost-in-Overlap-2.ensures, c.if-lost-3.true)

pub returns-in-None : goal.returns-in-None
unfolding or_lost
returns-in-None c = rw c.in-None.is

pub returns-else-lost : goal.returns-else-lost
unfolding or_lost
returns-else-lost c = rw (c.in-Point.is, ← c.lost.ensures, c.if-lost.false)

pub returns-else-lost-3 : goal.returns-else-lost-3
unfolding or_lost
returns-else-lost-3 c = rw (c.in-Overlap.is, ← c.lost-in-Overlap.ensures, c.if-lost-2.false, ← c.lost-in-Overlap-2.ensures, c.if-lost-3.false)

pub returns-in-Lost : goal.returns-in-Lost
unfolding or_lost
returns-in-Lost c = rw c.in-Lost.is
