-- No place is above the limit.
use Rattle.tabulation.proofs.Filling.{few}
use Rattle.tabulation.proofs.row.fill.Goals as goal

pub put_at-requires : goal.put_at-requires
put_at-requires c = few _ _ _ c.requires.1
