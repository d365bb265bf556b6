-- Of the one word.
use Rattle.events.proofs.points.lower_y.Goals as goal

pub returns : goal.returns
returns c = c.lower_than.ensures
