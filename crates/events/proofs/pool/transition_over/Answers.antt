-- By the numbers of what the mark says and what it should.
use Rattle.events.specs.Pool.{over}
use Rattle.events.proofs.pool.transition_over.Goals as goal

pub returns : goal.returns
unfolding over
returns c = rw (← c.transition_of.ensures, ← c.number_of_transition.ensures, ← c.number_of_transition-2.ensures) c.kept_or.ensures
