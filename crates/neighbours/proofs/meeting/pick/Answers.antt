-- Each return rewrites by the test that led to it.
use Rattle.neighbours.proofs.meeting.pick.Goals as goal

pub returns-then-test : goal.returns-then-test
returns-then-test c = rw c.if-test.true

pub returns-else-test : goal.returns-else-test
returns-else-test c = rw c.if-test.false
