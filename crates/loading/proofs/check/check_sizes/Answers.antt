-- Unequal, or else the limit decides.
use borrow.Author.Tests.{eq-eqb, ne_eqb, lt-ltb, le-ltb}
use Rattle.loading.specs.OnPool.{edges_sized}
use Rattle.loading.proofs.check.check_sizes.Goals as goal

pub returns-then-ends-labels : goal.returns-then-ends-labels
unfolding edges_sized
returns-then-ends-labels c = rw (c.refused.ensures, ne_eqb _ _ c.if-ends-labels.true)

pub returns-then-ends-gt-MAX_EDGES : goal.returns-then-ends-gt-MAX_EDGES
unfolding edges_sized
returns-then-ends-gt-MAX_EDGES c = rw (c.refused-then-ends-gt-MAX_EDGES.ensures, eq-eqb _ _ c.if-ends-labels.false, lt-ltb _ _ c.if-ends-gt-MAX_EDGES.true)

pub returns : goal.returns
unfolding edges_sized
returns c = rw (eq-eqb _ _ c.if-ends-labels.false, le-ltb _ _ c.if-ends-gt-MAX_EDGES.false)
