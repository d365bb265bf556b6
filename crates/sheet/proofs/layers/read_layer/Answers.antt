-- The count decides.
use Rattle.sheet.specs.Stored.{row_of}
use Rattle.sheet.proofs.Sections.{layer-read, layer-counted, layer-miscounted}
use Rattle.sheet.proofs.Puts.{stored-read, stored-miscounted}
use Rattle.sheet.proofs.layers.read_layer.Goals as goal

pub returns-in-Ok : goal.returns-in-Ok
returns-in-Ok c =
    let a = c.args in
    let r = c.read_count.ensures in
    let n = c.in-Ok.is in
    let x = c.read_whole.result in
    let w = c.read_whole.ensures in record { result_value = layer-read a.s.now a.word.now a.at a.most a.line _ r _ _ n x w.result_value; counted_layer = layer-counted a.s.now a.word.now a.at a.most a.line _ r _ _ n x w.counted_layer; rows_after = stored-read row_of _ a.place a.s.now a.word.now a.at a.most _ r _ _ n _ w.rows_after }

pub returns-in-Err : goal.returns-in-Err
returns-in-Err c =
    let a = c.args in
    let r = c.read_count.ensures in
    let e = c.in-Err.is in
    record { result_value = rw c.into.ensures (layer-miscounted a.s.now a.word.now a.at a.most a.line _ r _ e); counted_layer = tt; rows_after = stored-miscounted row_of a.rows.now a.place a.s.now a.word.now a.at a.most _ r _ e }
