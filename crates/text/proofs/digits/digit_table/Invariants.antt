-- The invariant: the first d digits are filled in.
use mathlib.Core.Path.{◌≡◌}
use lib.ListN.{length}
use Rattle.text.proofs.Table.{Filled}
use Rattle.text.proofs.digits.digit_table.Given as goal

abbrev pub invariant-loop-d : goal.invariant-loop-d
invariant-loop-d l = Filled l.table l.d × (length l.table ≡ 256)
