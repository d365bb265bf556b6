-- At the bottom there is none, and one place up the lowest has none below it.
use Rattle.sweep.proofs.Turns.{lowest-none}
use Rattle.sweep.proofs.event.lowest_at.Goals as goal

pub returns-then-k-eq0 : goal.returns-then-k-eq0
returns-then-k-eq0 c = lowest-none _ _ c.if-k-eq0.true
