-- Two additions one after the other, the second with the sums exchanged.
use Rattle.orientation.proofs.Areas.{exchanged, and}
use Rattle.orientation.proofs.sum.add_cross.Goals as goal

pub returns : goal.returns
returns c = and c.add_term.ensures (exchanged c.add_term-2.ensures)
