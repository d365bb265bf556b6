-- The test decides.
use Rattle.crossing.specs.Modes.{ends_in_order}
use Rattle.crossing.proofs.modes.ends_in_order.Goals as goal

pub returns-then-is_ahead : goal.returns-then-is_ahead
unfolding ends_in_order
returns-then-is_ahead c = rw (← c.is_ahead.ensures, c.if-is_ahead.true)

pub returns : goal.returns
unfolding ends_in_order
returns c = rw (← c.is_ahead.ensures, c.if-is_ahead.false)
