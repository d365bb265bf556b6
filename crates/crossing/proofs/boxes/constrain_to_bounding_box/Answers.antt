-- Each coordinate is the callee's.
use Rattle.crossing.specs.Boxes.{clamp}
use Rattle.crossing.proofs.boxes.constrain_to_bounding_box.Goals as goal

pub returns : goal.returns
unfolding clamp
returns c = rw (c.constrain-2.ensures, c.constrain.ensures)
