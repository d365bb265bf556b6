-- Mark by mark.
use Rattle.events.specs.Pool.{marks_over}
use Rattle.events.proofs.Codes.{marks-alike}
use Rattle.events.proofs.pool.marks_over.Goals as goal

pub returns : goal.returns
unfolding marks_over
returns c =
    marks-alike
    c.flag_over.ensures
    c.flag_over-2.ensures
    c.there_over.ensures
    c.link_over.ensures
    c.edge_type_over.ensures
    c.transition_over.ensures
    c.flag_over-3.ensures
    c.flag_over-4.ensures
    c.there_over-2.ensures
    c.link_over-2.ensures
