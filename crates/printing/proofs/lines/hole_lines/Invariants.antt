-- The invariant: the lines so far are put.
use lib.ListN.{take}
use Rattle.printing.specs.Printing.{hole_lines}
use Rattle.printing.specs.Put.{Put}
use Rattle.printing.proofs.lines.hole_lines.Given as goal

abbrev pub invariant-loop-hole : goal.invariant-loop-hole
invariant-loop-hole l = Put l.initial.out l.at (hole_lines (take l.hole-index l.holes)) l.out l.place
