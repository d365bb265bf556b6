use Rattle.std.proofs.Common.{arith}
use Rattle.std.proofs.lemmas.Grind.{common_steps}
use Rattle.results.proofs.Counted.{length-keep}
use Rattle.results.proofs.count_of.Goals as goal

pub returns : goal.returns
returns g c = λ p h. let counted = c.loop-r.invariant.1 p h in rw length-keep (grind (arith, common_steps))
