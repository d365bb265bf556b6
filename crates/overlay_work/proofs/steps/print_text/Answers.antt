-- Counted in no bytes at all, the text is refused or printed.
use Rattle.overlay_work.proofs.Handing.{too_long, short-enough}
use Rattle.overlay_work.proofs.steps.print_text.Goals as goal

pub returns-then-out-wanted : goal.returns-then-out-wanted
returns-then-out-wanted c = too_long _ _ _ _ _ c.print_contours-wanted.ensures c.if-out-wanted.true

pub returns : goal.returns
returns c = short-enough _ _ _ _ _ _ _ c.print_contours-wanted.ensures c.if-out-wanted.false c.print_contours.ensures
