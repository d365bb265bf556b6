-- By the numbers of what the mark says and what it should.
use Rattle.events.specs.Pool.{over}
use Rattle.events.proofs.pool.flag_over.Goals as goal

pub returns : goal.returns
unfolding over
returns c = rw (← c.number_of_flag.ensures, ← c.number_of_flag-2.ensures) c.kept_or.ensures
