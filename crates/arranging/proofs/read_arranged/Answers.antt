-- The rows that were read are put in order and stored.
use Rattle.std.proofs.lemmas.Result.{err_from_is_err_and}
use mathlib.Core.Path.{refl, sym}
use lib.Seq.{length-take-le}
use Rattle.arranging.proofs.Rowed.{not-read, subject-within, clip-within, few-enough, is_read}
use Rattle.arranging.proofs.read_arranged.Goals as goal

pub slice_bounds-subject-end : goal.slice_bounds-subject-end
slice_bounds-subject-end c = subject-within c.args.bytes.now _ _ _ _ _ c.read_rows.ensures _ _ _ c.in_ok-counts.was refl refl

pub slice_bounds-store_arranged-end : goal.slice_bounds-store_arranged-end
slice_bounds-store_arranged-end c = sym (length-take-le _ _ (subject-within c.args.bytes.now _ _ _ _ _ c.read_rows.ensures _ _ _ c.in_ok-counts.was refl refl))

pub slice_bounds-clip-end : goal.slice_bounds-clip-end
slice_bounds-clip-end c = clip-within c.args.bytes.now _ _ _ _ _ c.read_rows.ensures _ _ _ c.in_ok-counts.was refl refl

pub slice_bounds-store_arranged-end-2 : goal.slice_bounds-store_arranged-end-2
slice_bounds-store_arranged-end-2 c = sym (length-take-le _ _ (clip-within c.args.bytes.now _ _ _ _ _ c.read_rows.ensures _ _ _ c.in_ok-counts.was refl refl))

pub store_arranged-requires : goal.store_arranged-requires
store_arranged-requires c = few-enough c.args.bytes.now _ _ _ _ _ c.read_rows.ensures _ _ _ c.in_ok-counts.was refl refl

pub returns-in_err-counts : goal.returns-in_err-counts
returns-in_err-counts c = let p = err_from_is_err_and c.from_residual.result c.from_residual.ensures.1 in rw (p.1, p.2) (not-read c.args.bytes.now _ _ _ _ _ c.read_rows.ensures _ c.in_err-counts.was c.args.ends.now c.args.labels.now)

pub returns : goal.returns
returns c = is_read c.args.bytes.now _ _ _ _ _ c.read_rows.ensures _ _ _ c.in_ok-counts.was refl refl c.args.ends.now c.args.labels.now _ c.store_arranged.ensures
