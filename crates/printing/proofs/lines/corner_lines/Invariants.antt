-- The invariant: the lines so far are put.
use mathlib.Core.List.{map}
use lib.ListN.{take}
use Rattle.printing.specs.Printing.{corner_lines}
use Rattle.printing.specs.Arrays.{corner_of}
use Rattle.printing.specs.Put.{Put}
use Rattle.printing.proofs.lines.corner_lines.Given as goal

abbrev pub invariant-loop-i : goal.invariant-loop-i
invariant-loop-i l = Put l.initial.out l.at (corner_lines (map corner_of (take l.i l.corners))) l.out l.place
