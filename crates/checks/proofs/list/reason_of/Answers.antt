-- The fault that was matched picks the number.
use Rattle.checks.specs.OnPool.{reason_of}
use Rattle.checks.proofs.list.reason_of.Goals as goal

pub returns-in-Unfit : goal.returns-in-Unfit
unfolding reason_of
returns-in-Unfit c = rw c.in-Unfit.is

pub returns-in-Mistaken : goal.returns-in-Mistaken
unfolding reason_of
returns-in-Mistaken c = rw c.in-Mistaken.is

pub returns-in-MistakenOrRight : goal.returns-in-MistakenOrRight
unfolding reason_of
returns-in-MistakenOrRight c = rw c.in-MistakenOrRight.is
