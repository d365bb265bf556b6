-- Each is before the other exactly if they tie.
use mathlib.Core.Path.{sym}
use Rattle.order.proofs.AtBinary64.{laws}
use Rattle.order.proofs.Laws.{ties}
use Rattle.waiting.specs.Queue.{ties_with}
use Rattle.waiting.specs.Waiting.{before_used}
use Rattle.waiting.proofs.ties_with.Goals as goal

pub returns-in-None : goal.returns-in-None
unfolding ties_with
returns-in-None c = rw c.in-None.is

pub returns-in-Some : goal.returns-in-Some
unfolding ties_with before_used
returns-in-Some c = rw (c.in-Some.is, c.are_tied.ensures, c.key_used-in-Some.ensures, c.key_used.ensures) (sym (ties laws _ _))
