use Rattle.std.proofs.lemmas.Result.{err_from_is_err_and}
use native.Mathlib.Omega.{arith}
use Rattle.events.specs.Binary64.{at_binary64}
use Rattle.loading.specs.OnPool.{edges_of}
use Rattle.loading.proofs.Edges.{length-edges, next}
use Rattle.loading.proofs.Turns.{told_at, check-passed, check-refused, check-ended}
use Rattle.loading.proofs.check.check_edges.Goals as goal

pub read_edge-requires : goal.read_edge-requires
read_edge-requires c =
    let q = length-edges c.args.ends.now c.args.labels.now in
    (omega arith, omega arith)

pub returns-in_err-check_edge : goal.returns-in_err-check_edge
returns-in_err-check_edge c =
    let a = c.args in
    let told = told_at at_binary64 (edges_of a.ends.now a.labels.now) c.loop-i.i c.check_edge.ensures c.read_edge.ensures c.in_err-check_edge.was in
    let p = err_from_is_err_and c.from_residual.result c.from_residual.ensures.1 in
    rw (p.1, p.2) (check-refused _ _ _ c.loop-i.i c.loop-i.invariant _ (next a.ends.now a.labels.now c.loop-i.i (omega arith)) _ told)

pub loop-i-preserved : goal.loop-i-preserved
loop-i-preserved c =
    let a = c.args in
    let told = told_at at_binary64 (edges_of a.ends.now a.labels.now) c.loop-i.i c.check_edge.ensures c.read_edge.ensures c.in_ok-check_edge.was in
    check-passed _ _ _ c.loop-i.i c.loop-i.invariant _ (next a.ends.now a.labels.now c.loop-i.i (omega arith)) told

pub returns : goal.returns
returns c = check-ended _ _ _ c.loop-i.i c.loop-i.invariant (omega arith)
