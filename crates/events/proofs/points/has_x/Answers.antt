-- The test of the word.
use Rattle.events.proofs.points.has_x.Goals as goal

pub returns : goal.returns
returns c = c.is_in.ensures
