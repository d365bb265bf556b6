-- The rows that were read are put in order and printed where the sheet stood.
use Rattle.std.proofs.lemmas.Result.{err_from_is_err_and}
use mathlib.Core.Path.{refl, sym}
use lib.Seq.{length-take-le}
use Rattle.arranging.proofs.Rowed.{not-arranged, subject-within, clip-within, is-arranged}
use Rattle.arranging.proofs.arrange.Goals as goal

pub slice_bounds-subject-end : goal.slice_bounds-subject-end
slice_bounds-subject-end c = subject-within c.args.bytes.now _ _ _ _ _ c.read_rows.ensures _ _ _ c.in_ok-counts.was refl refl

pub slice_bounds-print_arranged-end : goal.slice_bounds-print_arranged-end
slice_bounds-print_arranged-end c = sym (length-take-le _ _ (subject-within c.args.bytes.now _ _ _ _ _ c.read_rows.ensures _ _ _ c.in_ok-counts.was refl refl))

pub slice_bounds-clip-end : goal.slice_bounds-clip-end
slice_bounds-clip-end c = clip-within c.args.bytes.now _ _ _ _ _ c.read_rows.ensures _ _ _ c.in_ok-counts.was refl refl

pub slice_bounds-print_arranged-end-2 : goal.slice_bounds-print_arranged-end-2
slice_bounds-print_arranged-end-2 c = sym (length-take-le _ _ (clip-within c.args.bytes.now _ _ _ _ _ c.read_rows.ensures _ _ _ c.in_ok-counts.was refl refl))

pub returns-in_err-counts : goal.returns-in_err-counts
returns-in_err-counts c = let p = err_from_is_err_and c.from_residual.result c.from_residual.ensures.1 in rw (p.1, p.2) (not-arranged c.args.bytes.now _ _ _ _ _ c.read_rows.ensures _ c.in_err-counts.was)

pub returns : goal.returns
returns c = is-arranged c.args.bytes.now _ _ _ _ _ c.read_rows.ensures _ _ _ c.in_ok-counts.was refl refl _ c.print_arranged.ensures
