-- Of the three values.
use Rattle.events.specs.Binary64.{at_binary64}
use Rattle.events.proofs.points.turn.Goals as goal

pub returns : goal.returns
unfolding at_binary64
returns c = rw (c.signed_area.ensures, c.value_of.ensures, c.value_of-2.ensures, c.value_of-3.ensures)
