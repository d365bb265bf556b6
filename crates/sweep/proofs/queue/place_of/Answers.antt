use native.Mathlib.Omega.{arith}
use Rattle.sweep.proofs.Queued.{halved-start, halved-lower, halved-upper, halved-end}
use Rattle.sweep.proofs.Sided.{sides}
use Rattle.sweep.proofs.queue.place_of.Goals as goal

pub loop-lo-init : goal.loop-lo-init
loop-lo-init c = (
  halved-start _ _ _ _ c.requires.0,
  omega arith,
  omega arith,
  c.requires.0,
  rw (← c.read_used-e.ensures) (sides _ _ _ (omega (arith, c.read_used-e.type_inv)) c.lower_x-left.ensures c.higher_x-right.ensures),
)

pub loop-lo-preserved-then-leads_by : goal.loop-lo-preserved-then-leads_by
loop-lo-preserved-then-leads_by c =
    let l = c.loop-lo in (
      halved-lower _ _ _ _ l.lo l.hi c.loop-lo-test.true l.invariant.2 c.leads_by.ensures l.invariant.0 c.if-leads_by.true,
      omega arith,
      omega arith,
      l.invariant.3,
      l.invariant.4,
    )

pub loop-lo-preserved : goal.loop-lo-preserved
loop-lo-preserved c =
    let l = c.loop-lo in (
      halved-upper _ _ _ _ l.lo l.hi c.loop-lo-test.true l.invariant.2 c.leads_by.ensures l.invariant.0 c.if-leads_by.false,
      omega arith,
      omega arith,
      l.invariant.3,
      l.invariant.4,
    )

pub returns-clause-value : goal.returns-clause-value
returns-clause-value c = halved-end _ _ _ _ _ _ c.loop-lo-test.false c.loop-lo.invariant.0
