-- What the check told picks the answer, and whether anything is cut.
use Rattle.records.specs.Dividing.{possible_intersection}
use Rattle.records.proofs.dividing.possible_intersection.Goals as goal

pub returns-in-Err : goal.returns-in-Err
unfolding possible_intersection
returns-in-Err c = rw (← c.check_left_two_in.ensures, c.in-Err.is)

pub returns-in-Ok : goal.returns-in-Ok
unfolding possible_intersection
returns-in-Ok c =
    rw (← c.check_left_two_in.ensures, c.in-Ok.is, c.possible_intersection.ensures)
