use native.Mathlib.Omega.{arith}
use Rattle.loading.proofs.Edges.{length-edges, next}
use Rattle.loading.proofs.Turns.{load-turn, load-ended}
use Rattle.loading.proofs.store.load_edges.Goals as goal

pub read_edge-requires : goal.read_edge-requires
read_edge-requires c =
    let q = length-edges c.args.ends.now c.args.labels.now in
    (omega arith, omega arith)

pub loop-i-preserved : goal.loop-i-preserved
loop-i-preserved c =
    let a = c.args in
    load-turn _ _ _ _ _ c.loop-i.i c.loop-i.invariant _ (next a.ends.now a.labels.now c.loop-i.i (omega arith)) c.load_edge.ensures c.read_edge.ensures

pub returns : goal.returns
returns c = (omega arith, load-ended _ _ _ _ _ c.loop-i.i c.loop-i.invariant (omega arith))
