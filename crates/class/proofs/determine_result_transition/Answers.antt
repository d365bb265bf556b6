-- Whether the operation holds above decides.
use Rattle.class.specs.Class.{direction}
use Rattle.class.proofs.determine_result_transition.Goals as goal

pub returns-then-holds_above : goal.returns-then-holds_above
unfolding direction
returns-then-holds_above c = rw (← c.holds_above.ensures, c.if-holds_above.true)

pub returns : goal.returns
unfolding direction
returns c = rw (← c.holds_above.ensures, c.if-holds_above.false)
