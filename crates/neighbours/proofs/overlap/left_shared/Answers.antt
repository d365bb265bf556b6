-- The end is read first, then the types are set, then the longer one is cut.
use Rattle.neighbours.proofs.Overlaps.{left-shared-is}
use Rattle.neighbours.proofs.overlap.left_shared.Goals as goal

pub returns : goal.returns
returns c = left-shared-is _ _ _ _ _ _ _ _ _ _ _ _ c.right_point-end.ensures c.coincide.ensures c.cut_unless.ensures
