-- The boxes decide; within the shared box three callees compose to the definition.
use Rattle.crossing.specs.Crossing.{intersection_of, in_box}
use Rattle.crossing.proofs.intersection_of.Goals as goal

pub returns-in-None : goal.returns-in-None
unfolding intersection_of in_box
returns-in-None c = rw (← c.get_intersection_bounding_box.ensures, c.in-None.is)

pub returns-in-Some : goal.returns-in-Some
unfolding intersection_of in_box
returns-in-Some c = rw (← c.get_intersection_bounding_box.ensures, c.in-Some.is, c.or_lost.ensures, c.constrained.ensures, c.intersection_impl.ensures)
