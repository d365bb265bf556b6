-- The test decides whether the division is asked.
use Rattle.neighbours.proofs.Steps.{not-cut, is_cut}
use Rattle.neighbours.proofs.step.cut_unless.Goals as goal

pub returns-then-not_to_be : goal.returns-then-not_to_be
returns-then-not_to_be c = not-cut _ _ _ _ _ _ _ _ _ c.if-not_to_be.true c.still.ensures.0 c.still.ensures.1

pub returns : goal.returns
returns c = is_cut _ _ _ _ _ _ _ _ c.if-not_to_be.false c.cut.ensures
