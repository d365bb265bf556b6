-- Each test that fails is a step of the chain that does not decide.
use Rattle.order.specs.Order as Order
use Rattle.order.specs.Order.{by_number}
use Rattle.order.proofs.before.Goals as goal

pub returns-then-less_x : goal.returns-then-less_x
unfolding Order.before by_number
returns-then-less_x c = rw (← c.less_x.ensures, c.if-less_x.true)

pub returns-then-less_x-2 : goal.returns-then-less_x-2
unfolding Order.before by_number
returns-then-less_x-2 c =
    rw (← c.less_x.ensures, c.if-less_x.false, ← c.less_x-2.ensures, c.if-less_x-2.true)

pub returns-then-less_y : goal.returns-then-less_y
unfolding Order.before by_number
returns-then-less_y c =
    rw (← c.less_x.ensures, c.if-less_x.false, ← c.less_x-2.ensures, c.if-less_x-2.false, ← c.less_y.ensures, c.if-less_y.true)

pub returns-then-less_y-2 : goal.returns-then-less_y-2
unfolding Order.before by_number
returns-then-less_y-2 c =
    rw (← c.less_x.ensures, c.if-less_x.false, ← c.less_x-2.ensures, c.if-less_x-2.false, ← c.less_y.ensures, c.if-less_y.false, ← c.less_y-2.ensures, c.if-less_y-2.true)

pub returns : goal.returns
unfolding Order.before by_number
returns c =
    rw (← c.less_x.ensures, c.if-less_x.false, ← c.less_x-2.ensures, c.if-less_x-2.false, ← c.less_y.ensures, c.if-less_y.false, ← c.less_y-2.ensures, c.if-less_y-2.false, c.before_there.ensures)
