-- Each return rewrites by the test that led to it.
use Rattle.std.proofs.Common.{eq-eqb, ne_eqb}
use Rattle.events.proofs.pool.kept_or.Goals as goal

pub returns-then-says-n : goal.returns-then-says-n
returns-then-says-n c = rw (eq-eqb _ _ c.if-says-n.true)

pub returns : goal.returns
returns c = rw (ne_eqb _ _ c.if-says-n.false)
