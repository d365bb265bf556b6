-- The text stands, or the refusal's line is put.
use Rattle.printing.specs.Printing.{refusal_line}
use Rattle.overlay_work.proofs.Handing.{printed, refused-line}
use Rattle.overlay_work.proofs.answer.Goals as goal

pub returns-in-Ok : goal.returns-in-Ok
returns-in-Ok c = printed _ _ _ _ c.overlay.ensures _ c.in-Ok.is

pub returns-in-Err : goal.returns-in-Err
unfolding refusal_line
returns-in-Err c =
    refused-line _ _ _ _ c.overlay.ensures _ _ _ c.in-Err.is (rw c.from.ensures at c.print_refusal.ensures)
