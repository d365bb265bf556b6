-- The first record with the fault decides.
use borrow.Author.Tests.{lt-ltb, le-ltb}
use Rattle.checks.specs.Checks.{told}
use Rattle.checks.proofs.list.check_fault.Goals as goal

pub returns-then-at-list : goal.returns-then-at-list
unfolding told
returns-then-at-list c =
    rw (← c.first_struck-at.ensures, lt-ltb _ _ c.if-at-list.true, c.reason_of.ensures, c.place_of.ensures)

pub returns : goal.returns
unfolding told
returns c = rw (← c.first_struck-at.ensures, le-ltb _ _ c.if-at-list.false)
