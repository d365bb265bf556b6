-- The callees compose to the definition.
use Rattle.crossing.specs.Modes.{ordered_pair}
use Rattle.crossing.proofs.modes.ordered_pair.Goals as goal

pub returns : goal.returns
unfolding ordered_pair
returns c = rw (c.in_order.ensures, c.ends_in_order-b.ensures, c.unsigned_segment-2.ensures, c.ends_in_order-a.ensures, c.unsigned_segment.ensures)
