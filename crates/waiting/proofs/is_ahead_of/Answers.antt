-- The two records read are the definition's.
use Rattle.waiting.proofs.is_ahead_of.Goals as goal

pub returns : goal.returns
returns c = rw (← c.read_used-f.ensures, ← c.read_used-e.ensures, c.is_ahead.ensures)
