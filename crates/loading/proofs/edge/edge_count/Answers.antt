-- The shorter of the two.
use mathlib.Core.Path.{sym, ◌∙◌}
use Rattle.loading.proofs.Edges.{length-edges}
use Rattle.loading.proofs.edge.edge_count.Goals as goal

pub returns : goal.returns
returns c = c.min.ensures ∙ sym (length-edges _ _)
