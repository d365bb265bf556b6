use Rattle.positions.proofs.AsListed.{copied_none, copied_more}
use Rattle.positions.proofs.listed.copy_results.Goals as goal

pub loop-r-init : goal.loop-r-init
loop-r-init c = copied_none _ _

pub loop-r-preserved : goal.loop-r-preserved
loop-r-preserved c = copied_more _ _ _ _ _ _ _ _ c.loop-r-test.true c.loop-r.invariant c.append-n.ensures
