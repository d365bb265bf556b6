-- The work on what was read is that of the arranged sheet's reading.
use Rattle.std.proofs.lemmas.Result.{err_from_is_err_and}
use mathlib.Core.Path.{refl}
use Rattle.overlay_work.specs.Overlay.{no_ends, no_labels}
use Rattle.overlay_work.proofs.Reading.{within, works, counted-within, told-refused, told-read}
use Rattle.overlay_work.proofs.OneMap.{arranged-fits, arranged-work}
use Rattle.overlay_work.proofs.overlay_arranged.Goals as goal

pub overlay_read-requires : goal.overlay_read-requires
unfolding no_ends no_labels
overlay_read-requires c = counted-within _ _ _ _ c.in_ok-counts.was (within _ (arranged-fits _ _ refl) _ _ _ c.read_arranged.ensures)

pub returns-in_err-counts : goal.returns-in_err-counts
unfolding no_ends no_labels
returns-in_err-counts c =
    let p = err_from_is_err_and c.from_residual.result c.from_residual.ensures.1 in
    rw (p.1, p.2) (arranged-work _ _ _ (told-refused _ _ _ _ _ (works _ (arranged-fits _ _ refl) _ _ _ c.read_arranged.ensures) _ c.in_err-counts.was))

pub returns : goal.returns
unfolding no_ends no_labels
returns c = arranged-work _ _ _ (told-read _ _ _ _ _ (works _ (arranged-fits _ _ refl) _ _ _ c.read_arranged.ensures) _ c.in_ok-counts.was _ c.overlay_read.ensures)
