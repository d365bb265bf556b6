-- Both words.
use Rattle.events.specs.Binary64.{as_loaded}
use Rattle.events.proofs.points.as_loaded.Goals as goal

pub returns : goal.returns
unfolding as_loaded
returns c = rw (c.unsigned_word.ensures, c.unsigned_word-2.ensures)
