-- Both layers' keys in order are compared, and then made rows again.
use Rattle.arranging.proofs.RowsInOrder.{rows_are, subject-goes-first, clip-may-go-first}
use Rattle.arranging.proofs.layers.arrange_layers.Goals as goal

pub returns-then-subject_first : goal.returns-then-subject_first
returns-then-subject_first c =
    let s = c.sort_layer.ensures in
    let t = c.sort_layer-2.ensures in
    record { subject_after = rows_are _ _ _ s c.to_rows.ensures; clip_after = rows_are _ _ _ t c.to_rows-2.ensures; value = subject-goes-first _ _ _ _ _ s t _ c.rows_at_most-subject_first.ensures c.if-subject_first.true }

pub returns : goal.returns
returns c =
    let s = c.sort_layer.ensures in
    let t = c.sort_layer-2.ensures in
    record { subject_after = rows_are _ _ _ s c.to_rows.ensures; clip_after = rows_are _ _ _ t c.to_rows-2.ensures; value = clip-may-go-first _ _ _ _ _ s t _ c.rows_at_most-subject_first.ensures c.if-subject_first.false _ c.is_symmetric.ensures }
