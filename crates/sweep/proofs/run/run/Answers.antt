use mathlib.Core.Path.{◌∙◌}
use native.Mathlib.Omega.{arith}
use Rattle.sweep.proofs.Runs.{run-stopped, run-over, run_on, beyond-then}
use Rattle.sweep.proofs.run.run.Goals as goal

pub returns-then-is_stopped-clause-result_after : goal.returns-then-is_stopped-clause-result_after
returns-then-is_stopped-clause-result_after c =
    run-stopped _ _ _ _ _ _ _ _ c.is_stopped.ensures c.if-is_stopped.true ∙ c.loop.invariant.left

pub loop-preserved : goal.loop-preserved
loop-preserved c =
    let now = c.loop.invariant in
    let next = c.step-now.ensures in record {
      left = run_on _ _ _ _ _ _ _ _ _ _ _ now.left c.loop-test.true c.is_stopped.ensures c.if-is_stopped.false next.result_after;
      fits = next.fits.0;
      beyond = beyond-then _ _ _ _ _ _ now.beyond next.fits.1;
      queues = next.queues;
    }

pub returns-clause-result_after : goal.returns-clause-result_after
returns-clause-result_after c =
    run-over _ _ _ _ _ _ _ (omega arith) ∙ c.loop.invariant.left
