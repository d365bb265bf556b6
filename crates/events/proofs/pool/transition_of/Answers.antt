-- The number that was matched picks the transition.
use Rattle.std.proofs.Common.{arith, ne_eqb}
use Rattle.events.specs.Pool.{transition_of}
use Rattle.events.proofs.pool.transition_of.Goals as goal

pub returns-in-0 : goal.returns-in-0
unfolding transition_of
returns-in-0 c = rw c.in-0.is

pub returns-in-1 : goal.returns-in-1
unfolding transition_of
returns-in-1 c = rw c.in-1.is

pub returns-in_default : goal.returns-in_default
unfolding transition_of
returns-in_default c = rw (ne_eqb c.args.n 0 (omega arith), ne_eqb c.args.n 1 (omega arith))
