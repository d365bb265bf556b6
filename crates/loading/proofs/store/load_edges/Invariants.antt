-- The invariant: loading the edges from i on into the pool now gives the whole.
use mathlib.Core.Path.{◌≡◌}
use lib.ListN.{drop}
use Rattle.events.specs.Binary64.{at_binary64}
use Rattle.events.specs.Pool.{pool, stored}
use Rattle.loading.specs.Loading.{loaded}
use Rattle.loading.specs.OnPool.{edges_of}
use Rattle.loading.proofs.store.load_edges.Given as goal

abbrev pub invariant-loop-i : goal.invariant-loop-i
invariant-loop-i l =
    loaded at_binary64 stored (pool l.points l.marks) l.i (drop l.i (edges_of l.ends l.labels)) ≡ loaded at_binary64 stored (pool l.initial.points l.initial.marks) 0 (edges_of l.ends l.labels)
