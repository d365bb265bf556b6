-- The array holds the position, or the row of zeros is read.
use Rattle.rows.proofs.Read.{end-in, end-out}
use Rattle.rows.proofs.end_at.Goals as goal

pub returns-then-i-rows : goal.returns-then-i-rows
returns-then-i-rows c = end-in _ _ _ c.end_of.ensures

pub returns : goal.returns
returns c = end-out _ _ _ c.if-i-rows.false c.end_of-2.ensures
