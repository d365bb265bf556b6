-- The fault is a mistake.
use Rattle.checks.specs.Checks.{checked}
use Rattle.checks.specs.OnPool.{reason_of, strikes, checked_for, checked_at}
use Rattle.checks.proofs.list.check_records.Goals as goal

pub returns : goal.returns
unfolding checked_at checked_for checked reason_of strikes
returns c = c.check_for.ensures
