-- Four points are read, and what they have in common decides.
use Rattle.events.specs.Binary64.{in_mode}
use Rattle.neighbours.proofs.Meetings.{meet-is}
use Rattle.neighbours.proofs.possible_intersection.Goals as goal

pub returns : goal.returns
returns c = meet-is _ _ _ _ (in_mode _) _ _ _ _ _ _ _ _ _ _ c.left_point-left_a.ensures c.right_point-right_a.ensures c.left_point-left_b.ensures c.right_point-right_b.ensures c.crossing-found.ensures c.same_point.ensures c.same_point-2.ensures c.meet_by.ensures
