-- The two keys are the definition's.
use Rattle.division.specs.Division as Spec
use Rattle.division.proofs.ends.keeps.Goals as goal

pub returns : goal.returns
unfolding Spec.keeps
returns c = rw (c.before-2.ensures, c.key_of.ensures, c.key_of-left.ensures, c.new_end.ensures)
