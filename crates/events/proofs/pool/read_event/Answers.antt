-- Both arrays hold the number, or the blank record is read.
use Rattle.std.proofs.Common.{le-ltb, lt-ltb}
use Rattle.events.specs.Pool.{row_at}
use Rattle.events.proofs.pool.read_event.Goals as goal
use Rattle.events.proofs.pool.read_event.Goals.{then-at-points+else-at-marks, else-at-points}

pub returns-then-at-marks : goal.returns-then-at-marks
unfolding row_at
returns-then-at-marks c = rw (lt-ltb _ _ c.if-at-points.true, lt-ltb _ _ c.if-at-marks.true, c.event_of.ensures)

pub returns : goal.returns
unfolding row_at
returns c =
    elim c.if-at-points.branch [
      | then-at-points+else-at-marks w ↦ rw (lt-ltb _ _ w.if-at-points.true, le-ltb _ _ w.if-at-marks.false, c.blank_event.ensures)
      | else-at-points w ↦ rw (le-ltb _ _ w.if-at-points.false, c.blank_event.ensures)
    ]
