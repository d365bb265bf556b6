-- Where the boxes decide, they tell the order; elsewhere the older of the two is found, and then which lies below.
use mathlib.Core.Path.{sym}
use Rattle.order.specs.Keys.{shown_key}
use Rattle.order.proofs.AtBinary64.{laws}
use Rattle.segments.specs.Segments.{compare_segments}
use Rattle.events.proofs.Parted.{parts}
use Rattle.segments.proofs.Agreement.{agrees}
use Rattle.segments.proofs.compare_segments.Goals as goal

pub returns-in-Some : goal.returns-in-Some
returns-in-Some c =
    sym (rw (← c.by_boxes.ensures, c.in-Some.is) at (agrees laws (parts c.args.mode) (shown_key c.args.b) (shown_key c.args.a)))

pub returns-then-before : goal.returns-then-before
unfolding compare_segments
returns-then-before c = rw (← c.before-2.ensures, c.if-before.true, c.less_if.ensures, c.old_is_below.ensures)

pub returns : goal.returns
unfolding compare_segments
returns c = rw (← c.before-2.ensures, c.if-before.false, c.less_if_inversed.ensures, c.old_is_below-2.ensures)
