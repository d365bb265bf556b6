-- The closure asks whether the record is the left end of a result edge.
use Rattle.std.proofs.Common.{rules}
use Rattle.contours.specs.Result.{result_edges}
use Rattle.results.specs.Edge.{is_edge}
use Rattle.results.proofs.count_edges.Goals as goal

pub returns : goal.returns
unfolding result_edges is_edge
returns c = c.count_of.ensures _ (λ r b h. search rules)
