-- The invariant: the first rows are replaced.
use mathlib.Core.Path.{◌≡◌}
use mathlib.Core.List.{◌++◌, map}
use lib.ListN.{take, drop}
use Rattle.arranging.specs.Steps.{key_of_row}
use Rattle.arranging.proofs.rows.to_keys.Given as goal

abbrev pub invariant-loop-row : goal.invariant-loop-row
invariant-loop-row l = l.rows ≡ map key_of_row (take l.row-index l.initial.rows) ++ drop l.row-index l.initial.rows
