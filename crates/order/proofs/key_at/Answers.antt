-- The two records read are the definition's.
use Rattle.order.specs.Keys.{key_of, key_at}
use Rattle.order.proofs.key_at.Goals as goal

pub returns : goal.returns
unfolding key_of key_at
returns c = rw (← c.read_event-e.ensures, ← c.read_event-partner.ensures, c.key_of.ensures)
