-- Each return rewrites by the test that led to it.
use Rattle.std.proofs.Common.{eq-eqb, ne_eqb}
use Rattle.events.specs.Pool.{link_of}
use Rattle.events.proofs.pool.link_of.Goals as goal

pub returns-then-there-eq1 : goal.returns-then-there-eq1
unfolding link_of
returns-then-there-eq1 c = rw (eq-eqb _ _ c.if-there-eq1.true)

pub returns : goal.returns
unfolding link_of
returns c = rw (ne_eqb _ _ c.if-there-eq1.false)
