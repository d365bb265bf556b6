-- The difference of the words, which wraps.
use Rattle.std.proofs.Common.{ltb, ap}
use Rattle.events.specs.Runs.{in_run}
use Rattle.events.proofs.Runs.{wraps}
use Rattle.events.proofs.points.is_in.Goals as goal

pub returns : goal.returns
unfolding in_run
returns c =
    ap (λ d. ltb d c.args.run.many) (wraps _ _ _ c.struct_known-1.given.0.fits c.wrapping_sub_u64.type_inv c.wrapping_sub_u64.ensures.value)
