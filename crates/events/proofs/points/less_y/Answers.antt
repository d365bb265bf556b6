-- Both words by their values.
use Rattle.events.specs.Binary64.{at_binary64}
use Rattle.events.proofs.points.less_y.Goals as goal

pub returns : goal.returns
unfolding at_binary64
returns c = rw (c.value.ensures, c.value-2.ensures)
