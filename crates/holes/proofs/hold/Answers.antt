-- The holes first; how many they are is how far they came.
use Rattle.holes.proofs.Holes.{hold-is, pile-far}
use Rattle.holes.proofs.hold.Goals as goal

pub overflow_sub-end : goal.overflow_sub-end
overflow_sub-end c = (pile-far _ _ _ _ _ _ _ c.holes_of-end.ensures).0

pub returns : goal.returns
returns c =
    hold-is _ _ _ _ _ _ _ _ _ _ c.nest_at-nest.ensures c.holes_of-end.ensures c.put_contour.ensures
