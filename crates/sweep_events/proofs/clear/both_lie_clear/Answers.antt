-- The four points that are read are those of the two members' keys.
use Rattle.sweep_events.proofs.Passing.{read-passed}
use Rattle.sweep_events.proofs.clear.both_lie_clear.Goals as goal

pub returns-then-n-ready : goal.returns-then-n-ready
returns-then-n-ready c t =
    let both = c.are_clear.ensures t in (
      read-passed _ _ _ _ _ _ _ c.requires c.if-i-ready.true c.if-m-ready.true c.mate_at-m.ensures _ _ c.point_at.ensures c.point_at-then-n-ready.ensures both.0,
      read-passed _ _ _ _ _ _ _ c.requires c.if-j-ready.true c.if-n-ready.true c.mate_at-n.ensures _ _ c.point_at-then-n-ready-2.ensures c.point_at-then-n-ready-3.ensures both.1,
    )
