-- The invariant: the lines so far are put.
use mathlib.Core.List.{map}
use lib.ListN.{take}
use Rattle.sheet.specs.Sheet.{edge_lines}
use Rattle.sheet.specs.Stored.{edge_of_row}
use Rattle.printing.specs.Put.{Put}
use Rattle.printing.proofs.sheets.edge_lines.Given as goal

abbrev pub invariant-loop-row : goal.invariant-loop-row
invariant-loop-row l = Put l.initial.out l.at (edge_lines (map edge_of_row (take l.row-index l.rows))) l.out l.place
