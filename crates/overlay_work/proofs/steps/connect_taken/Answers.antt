-- As many places as events are listed are enough.
use Rattle.overlay_work.proofs.Outlines.{in-many, in-few}
use Rattle.overlay_work.proofs.steps.connect_taken.Goals as goal

pub returns-then-list-gt-FEW : goal.returns-then-list-gt-FEW
returns-then-list-gt-FEW c = in-many _ _ _ _ c.connect_with.ensures

pub returns : goal.returns
returns c = in-few _ _ _ _ c.if-list-gt-FEW.false c.connect_with-2.ensures
