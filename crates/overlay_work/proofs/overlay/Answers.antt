-- The work on what was read is that of the reading.
use Rattle.std.proofs.lemmas.Result.{err_from_is_err_and}
use mathlib.Core.Path.{refl}
use Rattle.overlay_work.specs.Overlay.{work, overlay, no_ends, no_labels}
use Rattle.overlay_work.proofs.Reading.{read_fits, within, works, counted-within, told-refused, told-read}
use Rattle.overlay_work.proofs.overlay.Goals as goal

pub overlay_read-requires : goal.overlay_read-requires
unfolding no_ends no_labels
overlay_read-requires c = counted-within _ _ _ _ c.in_ok-counts.was (within _ (read_fits _ _ refl) _ _ _ c.read_sheet.ensures)

pub returns-in_err-counts : goal.returns-in_err-counts
unfolding overlay work no_ends no_labels
returns-in_err-counts c =
    let p = err_from_is_err_and c.from_residual.result c.from_residual.ensures.1 in
    rw (p.1, p.2) (told-refused _ _ _ _ _ (works _ (read_fits _ _ refl) _ _ _ c.read_sheet.ensures) _ c.in_err-counts.was)

pub returns : goal.returns
unfolding overlay work no_ends no_labels
returns c = told-read _ _ _ _ _ (works _ (read_fits _ _ refl) _ _ _ c.read_sheet.ensures) _ c.in_ok-counts.was _ c.overlay_read.ensures
