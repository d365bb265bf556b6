-- Both members of the pair are passed.
use Prim.Native.Nat.{◌-◌}
use native.Mathlib.Omega.{arith}
use Rattle.events.specs.Pool.{pool}
use Rattle.sweep_events.proofs.Passing.{next-pair}
use Rattle.sweep_events.proofs.clear.after_pairs.Goals as goal

pub loop-k-preserved : goal.loop-k-preserved
loop-k-preserved c =
    let a = c.args in
    let cut = c.as_chunks in
    let two = c.both_lie_clear.ensures (c.if-not-both_lie_clear.false) in
    next-pair (pool a.points.now a.marks.now) a.used a.bounds a.status.now a.from (a.end - a.from) c.loop-k.k cut.result.0.now cut.ensures.front (omega (arith, cut.ensures.front_len)) c.loop-k.invariant two.0 two.1
