-- The flags by their function; outside the list nothing is set.
use mathlib.Core.Path.{sym}
use lib.Seq.{set_out}
use Rattle.rows.specs.Rows.{end_code}
use Rattle.rows.proofs.put_end.Goals as goal

pub returns-then-i-rows : goal.returns-then-i-rows
unfolding end_code
returns-then-i-rows c = rw (c.number_of_flag-out_in.ensures, c.number_of_flag-left.ensures)

pub returns-else-i-rows : goal.returns-else-i-rows
returns-else-i-rows c = sym (set_out _ _ _ c.if-i-rows.false)
