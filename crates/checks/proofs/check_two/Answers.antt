-- The list is each record and its partner.
use Rattle.checks.specs.Checks.{named}
use Rattle.checks.proofs.check_two.Goals as goal

pub returns : goal.returns
unfolding named
returns c = rw (c.check_records.ensures, c.mate-2.ensures, c.mate.ensures, c.places-n.ensures)
