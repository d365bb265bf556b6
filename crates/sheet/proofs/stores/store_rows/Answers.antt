use mathlib.Core.List.{[]}
use native.Mathlib.Nat.{add-zero}
use lib.ListN.{drop_of_length-le}
use Rattle.sheet.specs.Stored.{edge_of_row, ends_of, ends_of_row, labels_of_row}
use Rattle.sheet.proofs.Puts.{put-again, put-end, left-of}
use Rattle.sheet.proofs.stores.store_rows.Goals as goal

pub loop-i-init : goal.loop-i-init
loop-i-init c = (rw add-zero, rw add-zero)

pub loop-i-preserved : goal.loop-i-preserved
unfolding edge_of_row ends_of ends_of_row labels_of_row
loop-i-preserved c =
    let l = c.loop-i in
    let a = c.args in
    let next = left-of [] a.rows.now l.i c.loop-i-test.true in (
      put-again ends_of_row _ _ a.at l.i _ l.invariant.0 _ _ next _ c.put.ensures,
      put-again (labels_of_row a.subject) _ _ a.at l.i _ l.invariant.1 _ _ next _ c.put-in-loop-i.ensures,
    )

pub returns : goal.returns
returns c =
    let l = c.loop-i in
    let a = c.args in
    let none = drop_of_length-le a.rows.now {i = l.i} c.loop-i-test.false in
    record { ends_after = put-end ends_of_row _ _ a.at l.i _ l.invariant.0 none; labels_after = put-end (labels_of_row a.subject) _ _ a.at l.i _ l.invariant.1 none }
