-- All edges are read, or the line after those that are is told.
use Rattle.sheet.proofs.Sections.{whole-broken, whole-read}
use Rattle.sheet.proofs.layers.read_whole.Goals as goal

pub returns-then-e-count : goal.returns-then-e-count
returns-then-e-count c =
    let a = c.args in
    let e = c.read_edges-e.ensures in
    record { result_value = whole-broken a.s.now a.count a.line a.first _ e.count_value c.if-e-count.true; counted_layer = tt; rows_after = e.rows_after }

pub returns : goal.returns
returns c =
    let a = c.args in
    let e = c.read_edges-e in
    record { result_value = whole-read a.s.now a.count a.line a.first _ e.ensures.count_value c.if-e-count.false e.result.after e.ensures.s_value; counted_layer = e.ensures.count_value; rows_after = e.ensures.rows_after }
