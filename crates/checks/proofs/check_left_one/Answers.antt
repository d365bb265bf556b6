-- The list is the record and its partner; to want it twice is to want it once.
use Rattle.checks.specs.Checks.{named, checked_left}
use Rattle.checks.specs.OnPool.{reason_of, strikes, checked_for, checked_left_named}
use Rattle.checks.proofs.Left.{wanted-twice}
use Rattle.checks.proofs.check_left_one.Goals as goal

pub returns : goal.returns
unfolding checked_left_named checked_left checked_for named reason_of strikes
returns c = rw (c.check_for.ensures, c.mate.ensures, c.places-n.ensures, wanted-twice)
