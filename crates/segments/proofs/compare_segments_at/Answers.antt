-- One record is equal to itself; two are compared by their keys.
use borrow.Author.Tests.{eq-eqb, ne_eqb}
use Rattle.segments.specs.OnPool.{compare_at}
use Rattle.segments.proofs.compare_segments_at.Goals as goal

pub returns-then-a-b : goal.returns-then-a-b
unfolding compare_at
returns-then-a-b c = rw (eq-eqb _ _ c.if-a-b.true)

pub returns : goal.returns
unfolding compare_at
returns c = rw (ne_eqb _ _ c.if-a-b.false, c.compare_segments.ensures, c.key_at-2.ensures, c.key_at.ensures)
