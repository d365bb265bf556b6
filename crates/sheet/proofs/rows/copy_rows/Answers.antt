-- What is copied stands in front of what the rows held behind it.
use Rattle.sheet.proofs.Copies.{copied}
use Rattle.sheet.proofs.rows.copy_rows.Goals as goal

pub returns : goal.returns
returns c = copied _ _ _ _ c.min-n.ensures c.copy_from_slice.ensures.after
