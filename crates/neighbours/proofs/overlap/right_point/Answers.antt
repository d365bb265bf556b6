-- The two records read are the definition's.
use Rattle.events.specs.Binary64.{at_binary64}
use Rattle.neighbours.proofs.Overlaps.{right_is}
use Rattle.neighbours.proofs.overlap.right_point.Goals as goal

pub returns : goal.returns
returns c = right_is at_binary64 _ _ _ _ _ _ c.read_used-e.ensures c.read_used-f.ensures
