-- The closure asks whether the record is in the result.
use Rattle.std.proofs.Common.{rules}
use Rattle.contours.specs.Result.{results}
use Rattle.results.proofs.count_events.Goals as goal

pub returns : goal.returns
unfolding results
returns c = c.count_of.ensures _ (λ r b h. search rules)
