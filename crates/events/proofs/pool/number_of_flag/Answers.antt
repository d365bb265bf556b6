-- Each return rewrites by the test that led to it.
use Rattle.events.specs.Pool.{flag_number}
use Rattle.events.proofs.pool.number_of_flag.Goals as goal

pub returns-then-b : goal.returns-then-b
unfolding flag_number
returns-then-b c = rw c.if-b.true

pub returns-else-b : goal.returns-else-b
unfolding flag_number
returns-else-b c = rw c.if-b.false
