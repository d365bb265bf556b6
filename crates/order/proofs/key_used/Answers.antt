-- The two records read are the definition's.
use Rattle.order.specs.Keys.{key_of, key_used}
use Rattle.order.proofs.key_used.Goals as goal

pub returns : goal.returns
unfolding key_of key_used
returns c = rw (← c.read_used-e.ensures, ← c.read_used-partner.ensures, c.key_of.ensures)
