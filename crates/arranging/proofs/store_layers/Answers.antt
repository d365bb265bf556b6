-- One layer behind the other.
use Rattle.arranging.specs.Steps.{stored}
use Rattle.arranging.proofs.store_layers.Goals as goal

pub returns : goal.returns
unfolding stored
returns c = rw (c.store_rows-2.ensures.ends_after, c.store_rows-2.ensures.labels_after, c.store_rows.ensures.ends_after, c.store_rows.ensures.labels_after)
