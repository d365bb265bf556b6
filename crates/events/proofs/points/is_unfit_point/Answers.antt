-- Not both fit: the first is not, or else the second decides.
use mathlib.Core.Bool.{not-not}
use Rattle.events.specs.Binary64.{at_binary64}
use Rattle.events.proofs.points.is_unfit_point.Goals as goal

pub returns-then-is_unfit_word : goal.returns-then-is_unfit_word
unfolding at_binary64
returns-then-is_unfit_word c = rw (← c.is_unfit_word.ensures, c.if-is_unfit_word.true)

pub returns : goal.returns
unfolding at_binary64
returns c = rw (← c.is_unfit_word.ensures, c.if-is_unfit_word.false, ← c.is_unfit_word-2.ensures, not-not)
