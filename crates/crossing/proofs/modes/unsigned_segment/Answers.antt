-- End by end.
use Rattle.crossing.specs.Modes.{unsigned_segment}
use Rattle.crossing.proofs.modes.unsigned_segment.Goals as goal

pub returns : goal.returns
unfolding unsigned_segment
returns c = rw (c.unsigned_point-2.ensures, c.unsigned_point.ensures)
