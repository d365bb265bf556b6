-- Each return rewrites by the tests that led to it.
use Rattle.crossing.proofs.lines.is_at_end.Goals as goal

pub returns-then-s : goal.returns-then-s
returns-then-s c = rw c.if-s.true

pub returns-else-s : goal.returns-else-s
returns-else-s c = rw c.if-s.false
