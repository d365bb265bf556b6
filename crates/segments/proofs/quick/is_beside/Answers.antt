-- Each return rewrites by the tests that led to it.
use Rattle.segments.specs.Quick.{beside}
use Rattle.segments.proofs.quick.is_beside.Goals as goal

pub returns-then-less_x : goal.returns-then-less_x
unfolding beside
returns-then-less_x c = rw (← c.less_x.ensures, c.if-less_x.true)

pub returns-then-less_x-2 : goal.returns-then-less_x-2
unfolding beside
returns-then-less_x-2 c =
    rw (← c.less_x.ensures, c.if-less_x.false, ← c.less_x-2.ensures, c.if-less_x-2.true)

pub returns : goal.returns
unfolding beside
returns c =
    rw (← c.less_x.ensures, c.if-less_x.false, ← c.less_x-2.ensures, c.if-less_x-2.false, c.less_x-3.ensures)
