-- Each return rewrites by the tests that led to it.
use Rattle.loading.specs.Loading.{checked_edge}
use Rattle.loading.proofs.check.check_edge.Goals as goal

pub returns-then-is_unfit_edge : goal.returns-then-is_unfit_edge
unfolding checked_edge
returns-then-is_unfit_edge c = rw (c.refused.ensures, ← c.is_unfit_edge.ensures, c.if-is_unfit_edge.true)

pub returns-then-same_point : goal.returns-then-same_point
unfolding checked_edge
returns-then-same_point c =
    rw (c.refused-then-same_point.ensures, ← c.is_unfit_edge.ensures, c.if-is_unfit_edge.false, ← c.same_point.ensures, c.if-same_point.true)

pub returns : goal.returns
unfolding checked_edge
returns c =
    rw (← c.is_unfit_edge.ensures, c.if-is_unfit_edge.false, ← c.same_point.ensures, c.if-same_point.false)
