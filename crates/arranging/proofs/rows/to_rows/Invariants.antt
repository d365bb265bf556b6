-- The invariant: the first rows are replaced.
use mathlib.Core.Path.{◌≡◌}
use mathlib.Core.List.{◌++◌, map}
use lib.ListN.{take, drop}
use Rattle.arranging.specs.Steps.{row_of_key}
use Rattle.arranging.proofs.rows.to_rows.Given as goal

abbrev pub invariant-loop-key : goal.invariant-loop-key
invariant-loop-key l = l.keys ≡ map row_of_key (take l.key-index l.initial.keys) ++ drop l.key-index l.initial.keys
