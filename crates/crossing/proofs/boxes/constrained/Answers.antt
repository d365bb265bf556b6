-- The case that was matched picks the definition's line.
use Rattle.crossing.specs.Boxes.{constrained_to}
use Rattle.crossing.proofs.boxes.constrained.Goals as goal

pub returns-in-None : goal.returns-in-None
unfolding constrained_to
returns-in-None c = rw c.in-None.is

pub returns-in-Point : goal.returns-in-Point
unfolding constrained_to
returns-in-Point c = rw (c.in-Point.is, c.constrain_to_bounding_box.ensures)

pub returns-in-Overlap : goal.returns-in-Overlap
unfolding constrained_to
returns-in-Overlap c = rw (c.in-Overlap.is, c.constrain_to_bounding_box-in-Overlap.ensures, c.constrain_to_bounding_box-in-Overlap-2.ensures)

pub returns-in-Lost : goal.returns-in-Lost
unfolding constrained_to
returns-in-Lost c = rw c.in-Lost.is
