-- Each array gets its row.
use Rattle.rows.specs.Rows.{put}
use Rattle.rows.proofs.put_row.Goals as goal

pub returns : goal.returns
unfolding put
returns c = rw (c.put_point.ensures, c.put_end.ensures)
