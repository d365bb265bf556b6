-- What the call answers is told.
use Rattle.entries.proofs.bezorika_crossing_ordered.Goals as goal

pub returns : goal.returns
returns c = rw (← c.crossing-crossed.ensures) c.tell_crossed.ensures
