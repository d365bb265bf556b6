-- The invariant: the lines so far are put.
use mathlib.Core.List.{map}
use lib.ListN.{take}
use Rattle.printing.specs.Printing.{contours_lines}
use Rattle.printing.specs.Arrays.{drawn_row}
use Rattle.printing.specs.Put.{Put}
use Rattle.printing.proofs.all_lines.Given as goal

abbrev pub invariant-loop-row : goal.invariant-loop-row
invariant-loop-row l = Put l.initial.out l.at (contours_lines (map (drawn_row l.corners l.holes) (take l.row-index l.contours))) l.out l.place
