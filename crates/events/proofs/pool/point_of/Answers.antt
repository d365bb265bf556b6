-- The pair written out is the definition.
use Rattle.std.proofs.Common.{refl}
use Rattle.events.specs.Pool.{point_of}
use Rattle.events.proofs.pool.point_of.Goals as goal

pub returns : goal.returns
unfolding point_of
returns c = refl
