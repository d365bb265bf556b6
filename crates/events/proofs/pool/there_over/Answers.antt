-- Whether the lent marks say this link decides.
use Rattle.events.specs.Pool.{there_over}
use Rattle.events.proofs.Over.{same_link-eq}
use Rattle.events.proofs.pool.there_over.Goals as goal

pub returns-then-eq : goal.returns-then-eq
unfolding there_over
returns-then-eq c = rw (← c.link_of.ensures, same_link-eq c.link_of.result c.args.l, ← c.eq.ensures, c.if-eq.true)

pub returns : goal.returns
unfolding there_over
returns c = rw (← c.link_of.ensures, same_link-eq c.link_of.result c.args.l, ← c.eq.ensures, c.if-eq.false) c.number_of_there.ensures
