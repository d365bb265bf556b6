-- An accepted pool has no more places than a pool can have.
use native.Mathlib.Omega.{arith}
use Rattle.sweep.proofs.Sweeps.{accepted}
use Rattle.sweep.proofs.sweep.Goals as goal

pub sweep_of-requires-2 : goal.sweep_of-requires-2
sweep_of-requires-2 c =
    let pre = c.requires in
    (pre, (accepted _ _ _ pre).0.few, omega arith)
