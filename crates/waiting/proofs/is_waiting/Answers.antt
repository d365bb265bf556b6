-- A flag within the array is read; beyond it there is none.
use mathlib.Core.Path.{refl, sym}
use mathlib.Core.Bool.{false}
use lib.ListN.{get_or-eq_default}
use Rattle.waiting.specs.Waiting.{flagged}
use Rattle.waiting.proofs.is_waiting.Goals as goal

pub returns-then-i-waits : goal.returns-then-i-waits
unfolding flagged
returns-then-i-waits c = refl

pub returns : goal.returns
unfolding flagged
returns c = sym (get_or-eq_default c.args.waits.now false c.if-i-waits.false)
