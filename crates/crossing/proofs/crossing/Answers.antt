-- The first number that is not finite decides.
use borrow.Author.Tests.{lt-ltb, le-ltb}
use Rattle.crossing.specs.Crossing.{crossing_in}
use Rattle.crossing.proofs.crossing.Goals as goal

pub returns-then-first-lt8 : goal.returns-then-first-lt8
unfolding crossing_in
returns-then-first-lt8 c = rw (← c.first_not_finite-first.ensures, lt-ltb _ _ c.if-first-lt8.true)

pub returns : goal.returns
unfolding crossing_in
returns c = rw (← c.first_not_finite-first.ensures, le-ltb _ _ c.if-first-lt8.false, c.intersection.ensures)
