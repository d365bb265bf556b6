-- The two keys read are the definition's.
use Rattle.order.proofs.before_at.Goals as goal

pub returns : goal.returns
returns c = rw (c.before-2.ensures, c.key_at-2.ensures, c.key_at.ensures)
