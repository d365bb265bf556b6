-- The layers, then the slope, of the neighbour pick the flags.
use Rattle.class.specs.Class.{set_from_lower, in_out_above, other_in_out_above}
use Rattle.class.proofs.set_from_lower.Goals as goal

pub returns-then-event-prev : goal.returns-then-event-prev
unfolding set_from_lower in_out_above other_in_out_above
returns-then-event-prev c =
    rw (c.in-Some.is, c.with_fields-then-event-prev.ensures, c.below_above-below.ensures, c.if-event-prev.true)

pub returns-then-n : goal.returns-then-n
unfolding set_from_lower in_out_above other_in_out_above
returns-then-n c =
    rw (c.in-Some.is, c.with_fields-then-n.ensures, c.below_above-below.ensures, c.if-event-prev.false, c.if-n.true)

pub returns-in-None : goal.returns-in-None
unfolding set_from_lower
returns-in-None c = rw (c.in-None.is, c.with_fields.ensures)

pub returns-else-n : goal.returns-else-n
unfolding set_from_lower in_out_above other_in_out_above
returns-else-n c =
    rw (c.in-Some.is, c.with_fields-in-Some.ensures, c.below_above-below.ensures, c.if-event-prev.false, c.if-n.false)
