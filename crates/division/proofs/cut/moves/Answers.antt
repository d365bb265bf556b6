-- Each return rewrites by the test that led to it.
use Rattle.division.specs.Division as Spec
use Rattle.division.proofs.cut.moves.Goals as goal

pub returns-then-same_x : goal.returns-then-same_x
unfolding Spec.moves
returns-then-same_x c = rw (← c.same_x.ensures, c.if-same_x.true, c.less_y.ensures)

pub returns : goal.returns
unfolding Spec.moves
returns c = rw (← c.same_x.ensures, c.if-same_x.false)
