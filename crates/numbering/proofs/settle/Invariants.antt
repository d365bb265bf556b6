-- Record after record, each with its number.
use Rattle.numbering.proofs.Settling.{Settling}
use Rattle.numbering.proofs.settle.Given as goal

abbrev pub invariant-loop-r : goal.invariant-loop-r
invariant-loop-r l = Settling l.places l.walked l.points l.initial.marks l.r l.marks
