-- The invariant: the checks of the edges from i on tell the whole.
use mathlib.Core.Path.{◌≡◌}
use lib.ListN.{drop}
use Rattle.events.specs.Binary64.{at_binary64}
use Rattle.loading.specs.Loading.{checked_edges}
use Rattle.loading.specs.OnPool.{edges_of}
use Rattle.loading.proofs.check.check_edges.Given as goal

abbrev pub invariant-loop-i : goal.invariant-loop-i
invariant-loop-i l =
    checked_edges at_binary64 l.i (drop l.i (edges_of l.ends l.labels)) ≡ checked_edges at_binary64 0 (edges_of l.ends l.labels)
