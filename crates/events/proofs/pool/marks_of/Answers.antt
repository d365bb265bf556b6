-- Number by number, the codes by their functions.
use Rattle.events.specs.Pool.{marks_of}
use Rattle.events.proofs.Codes.{marks-alike}
use Rattle.events.proofs.pool.marks_of.Goals as goal

pub returns : goal.returns
unfolding marks_of
returns c =
    marks-alike
    c.number_of_flag.ensures
    c.number_of_flag-2.ensures
    c.number_of_there.ensures
    c.number_of_link.ensures
    c.number_of_edge_type.ensures
    c.number_of_transition.ensures
    c.number_of_flag-3.ensures
    c.number_of_flag-4.ensures
    c.number_of_there-2.ensures
    c.number_of_link-2.ensures
