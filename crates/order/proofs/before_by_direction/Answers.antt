-- Each sign is one clause of the definition.
use Rattle.order.specs.Order.{by_turn, by_layer}
use Rattle.order.proofs.before_by_direction.Goals as goal

pub returns-in-Negative : goal.returns-in-Negative
unfolding by_turn
returns-in-Negative c = rw (← c.turn.ensures, c.in-Negative.is)

pub returns-then-a : goal.returns-then-a
unfolding by_turn by_layer
returns-then-a c = rw (← c.turn.ensures, c.in-Zero.is, c.if-a.true)

pub returns-else-a : goal.returns-else-a
unfolding by_turn by_layer
returns-else-a c = rw (← c.turn.ensures, c.in-Zero.is, c.if-a.false)

pub returns-in-Positive : goal.returns-in-Positive
unfolding by_turn
returns-in-Positive c = rw (← c.turn.ensures, c.in-Positive.is)
