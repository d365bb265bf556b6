-- The list is each record and its partner.
use Rattle.checks.specs.Checks.{named, checked_left}
use Rattle.checks.specs.OnPool.{reason_of, strikes, checked_for, checked_left_named}
use Rattle.checks.proofs.check_left_two.Goals as goal

pub returns : goal.returns
unfolding checked_left_named checked_left checked_for named reason_of strikes
returns c = rw (c.check_for.ensures, c.mate-2.ensures, c.mate.ensures, c.places-n.ensures)
