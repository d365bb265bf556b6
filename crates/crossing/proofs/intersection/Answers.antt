-- Named as the mode has them, then as they are named.
use Rattle.crossing.specs.Crossing.{intersection_of_pair, intersection_in}
use Rattle.crossing.proofs.intersection.Goals as goal

pub returns : goal.returns
unfolding intersection_of_pair intersection_in
returns c = rw (c.intersection_of.ensures, c.named_in-named.ensures)
