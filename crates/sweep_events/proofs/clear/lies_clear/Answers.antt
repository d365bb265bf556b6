-- The two points that are read are those of the member's key.
use Rattle.sweep_events.proofs.Passing.{read-passed}
use Rattle.sweep_events.proofs.clear.lies_clear.Goals as goal

pub returns-then-mate-ready : goal.returns-then-mate-ready
returns-then-mate-ready c t =
    read-passed _ _ _ _ _ _ _ c.requires c.if-at-ready.true c.if-mate-ready.true c.mate_at-mate.ensures _ _ c.point_at.ensures c.point_at-then-mate-ready.ensures (c.is_clear.ensures t)
