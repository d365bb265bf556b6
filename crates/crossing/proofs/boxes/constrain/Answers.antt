-- Each return rewrites by the tests that led to it.
use Rattle.crossing.proofs.boxes.constrain.Goals as goal

pub returns-then-p-low : goal.returns-then-p-low
returns-then-p-low c = rw c.if-p-low.true

pub returns-then-p-high : goal.returns-then-p-high
returns-then-p-high c = rw (c.if-p-low.false, c.if-p-high.true)

pub returns-else-p-high : goal.returns-else-p-high
returns-else-p-high c = rw (c.if-p-low.false, c.if-p-high.false)
