-- A refused sheet changes nothing; the rows of an accepted one, in the first places of the array that was read into, are stored layer by layer.
use Rattle.std.proofs.lemmas.Result.{err_from_is_err_and}
use mathlib.Core.Path.{sym}
use lib.Seq.{length-take-le}
use Rattle.sheet.proofs.Copies.{left-refused, read-within, subject-within, sheet-read}
use Rattle.sheet.proofs.read_sheet.Goals as goal

pub slice_bounds-own-end : goal.slice_bounds-own-end
slice_bounds-own-end c = subject-within c.args.bytes.now _ c.read_lines.ensures.value _ _ _ c.in_ok-counts.was _ _ c.no_rows-own.ensures c.read_lines.auto.rows

pub slice_bounds-store_rows-end : goal.slice_bounds-store_rows-end
slice_bounds-store_rows-end c = sym (length-take-le _ _ (subject-within c.args.bytes.now _ c.read_lines.ensures.value _ _ _ c.in_ok-counts.was _ _ c.no_rows-own.ensures c.read_lines.auto.rows))

pub slice_bounds-store_rows-end-2 : goal.slice_bounds-store_rows-end-2
slice_bounds-store_rows-end-2 c = read-within c.args.bytes.now _ c.read_lines.ensures.value _ _ _ c.in_ok-counts.was _ _ c.no_rows-own.ensures c.read_lines.auto.rows

pub returns-in_err-counts : goal.returns-in_err-counts
returns-in_err-counts c =
    let a = c.args in
    let p = err_from_is_err_and c.from_residual.result c.from_residual.ensures.1 in
    rw (p.1, p.2) (left-refused a.bytes.now _ c.read_lines.ensures.value _ c.in_err-counts.was a.ends.now a.labels.now)

pub returns : goal.returns
returns c =
    let a = c.args in
    let r = c.read_lines.ensures in
    let s = c.store_rows.ensures in
    let t = c.store_rows-2.ensures in
    sheet-read a.bytes.now _ r.value _ _ _ c.in_ok-counts.was _ _ c.no_rows-own.ensures r.rows_after _ _ _ _ _ _ s.ends_after t.ends_after s.labels_after t.labels_after
