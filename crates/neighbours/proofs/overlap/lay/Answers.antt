-- Whether the right ends coincide, and whether the first segment includes the other, decides the cuts.
use Rattle.neighbours.proofs.Overlaps.{laid-once, laid_on, laid-twice}
use Rattle.neighbours.proofs.overlap.lay.Goals as goal

pub returns-then-one_right : goal.returns-then-one_right
returns-then-one_right c = laid-once _ _ _ _ _ _ _ _ _ _ _ c.left_point-start.ensures c.if-one_right.true c.cut.ensures

pub returns-then-i-k : goal.returns-then-i-k
returns-then-i-k c = laid_on _ _ _ _ _ _ _ _ _ _ _ c.left_point-start.ensures _ c.right_point-end.ensures c.if-one_right.false c.if-i-k.true c.cut_on.ensures

pub returns : goal.returns
returns c = laid-twice _ _ _ _ _ _ _ _ _ _ _ c.left_point-start.ensures _ c.right_point-end.ensures c.if-one_right.false c.if-i-k.false c.twice.ensures
