-- The number that was matched picks the type.
use Rattle.std.proofs.Common.{arith, ne_eqb}
use Rattle.events.specs.Pool.{edge_type_of}
use Rattle.events.proofs.pool.edge_type_of.Goals as goal

pub returns-in-0 : goal.returns-in-0
unfolding edge_type_of
returns-in-0 c = rw c.in-0.is

pub returns-in-1 : goal.returns-in-1
unfolding edge_type_of
returns-in-1 c = rw c.in-1.is

pub returns-in-2 : goal.returns-in-2
unfolding edge_type_of
returns-in-2 c = rw c.in-2.is

pub returns-in_default : goal.returns-in_default
unfolding edge_type_of
returns-in_default c = rw (ne_eqb c.args.n 0 (omega arith), ne_eqb c.args.n 1 (omega arith), ne_eqb c.args.n 2 (omega arith))
