-- Each return rewrites by the tests that led to it.
use Rattle.crossing.proofs.boxes.lost.Goals as goal

pub returns-then-p : goal.returns-then-p
returns-then-p c = rw c.if-p.true

pub returns : goal.returns
returns c = rw c.if-p.false
