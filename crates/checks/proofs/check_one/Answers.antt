-- The list is the record and its partner.
use Rattle.checks.specs.Checks.{named}
use Rattle.checks.proofs.check_one.Goals as goal

pub returns : goal.returns
unfolding named
returns c = rw (c.check_records.ensures, c.mate.ensures, c.places-n.ensures)
