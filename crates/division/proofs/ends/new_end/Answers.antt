-- A fresh end of the edge's layer and ring.
use Rattle.division.specs.Division.{new_end}
use Rattle.division.proofs.ends.new_end.Goals as goal

pub returns : goal.returns
unfolding new_end
returns c = c.fresh_event.ensures
