-- Flags and link as set, and the transition by whether the edge is in the result.
use Rattle.class.specs.Class.{fields, transition_in}
use Rattle.class.proofs.compute_fields.Goals as goal

pub returns-then-in_result : goal.returns-then-in_result
unfolding fields transition_in
returns-then-in_result c = rw (c.with_fields.ensures, c.determine_result_transition-transition.ensures, ← c.set_from_lower-e.ensures, ← c.in_result.ensures, c.if-in_result.true)

pub returns : goal.returns
unfolding fields transition_in
returns c = rw (c.with_fields-2.ensures, ← c.set_from_lower-e.ensures, ← c.in_result.ensures, c.if-in_result.false)
