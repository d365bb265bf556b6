-- The word of the number's next_up.
use Rattle.events.specs.Binary64.{at_binary64}
use Rattle.events.proofs.points.next_x.Goals as goal

pub returns : goal.returns
unfolding at_binary64
returns c = rw (c.word.ensures, c.next_up.ensures, c.number.ensures)
