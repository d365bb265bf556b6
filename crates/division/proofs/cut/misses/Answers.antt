-- Each return rewrites by the tests that led to it.
use Rattle.division.specs.Division as Spec
use Rattle.division.proofs.cut.misses.Goals as goal

pub returns-then-same_point : goal.returns-then-same_point
unfolding Spec.misses
returns-then-same_point c = rw (← c.same_point.ensures, c.if-same_point.true)

pub returns-then-same_point-2 : goal.returns-then-same_point-2
unfolding Spec.misses
returns-then-same_point-2 c =
    rw (← c.same_point.ensures, c.if-same_point.false, ← c.same_point-2.ensures, c.if-same_point-2.true)

pub returns-then-less_x : goal.returns-then-less_x
unfolding Spec.misses
returns-then-less_x c =
    rw (← c.same_point.ensures, c.if-same_point.false, ← c.same_point-2.ensures, c.if-same_point-2.false, ← c.less_x.ensures, c.if-less_x.true)

pub returns-then-less_x-2 : goal.returns-then-less_x-2
unfolding Spec.misses
returns-then-less_x-2 c =
    rw (← c.same_point.ensures, c.if-same_point.false, ← c.same_point-2.ensures, c.if-same_point-2.false, ← c.less_x.ensures, c.if-less_x.false, ← c.less_x-2.ensures, c.if-less_x-2.true)

pub returns : goal.returns
unfolding Spec.misses
returns c =
    rw (← c.same_point.ensures, c.if-same_point.false, ← c.same_point-2.ensures, c.if-same_point-2.false, ← c.less_x.ensures, c.if-less_x.false, ← c.less_x-2.ensures, c.if-less_x-2.false) c.is_unfit_point.ensures
