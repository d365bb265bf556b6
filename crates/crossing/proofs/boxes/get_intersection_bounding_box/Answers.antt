-- Twelve callees compose to the definition.
use Rattle.crossing.specs.Boxes.{shared_box}
use Rattle.crossing.proofs.boxes.get_intersection_bounding_box.Goals as goal

pub returns : goal.returns
unfolding shared_box
returns c = cc
