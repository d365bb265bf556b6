-- The test is the definition's, and the step in x is next_up.
use Rattle.division.specs.Division as Spec
use Rattle.division.proofs.cut.moved.Goals as goal

pub returns-then-moves : goal.returns-then-moves
unfolding Spec.moved
returns-then-moves c = rw (← c.moves.ensures, c.if-moves.true, c.next_x.ensures)

pub returns : goal.returns
unfolding Spec.moved
returns c = rw (← c.moves.ensures, c.if-moves.false)
