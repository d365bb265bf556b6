-- The link that was matched picks the records.
use Rattle.records.proofs.check_with.Goals as goal

pub returns-in-None : goal.returns-in-None
returns-in-None c = rw (c.in-None.is, c.check_left_one.ensures)

pub returns-in-Some : goal.returns-in-Some
returns-in-Some c = rw (c.in-Some.is, c.check_left_two.ensures)
