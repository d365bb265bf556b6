-- Each return rewrites by the test that led to it.
use Rattle.neighbours.specs.Neighbours.{type_by}
use Rattle.neighbours.proofs.overlap.type_by.Goals as goal

pub returns-then-first-second : goal.returns-then-first-second
unfolding type_by
returns-then-first-second c = rw c.if-first-second.true

pub returns : goal.returns
unfolding type_by
returns c = rw c.if-first-second.false
