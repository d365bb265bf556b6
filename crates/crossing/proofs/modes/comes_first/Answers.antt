-- Each return rewrites by the tests that led to it.
use Rattle.crossing.specs.Modes.{comes_first}
use Rattle.crossing.proofs.modes.comes_first.Goals as goal

pub returns-then-is_ahead : goal.returns-then-is_ahead
unfolding comes_first
returns-then-is_ahead c = rw (← c.is_ahead.ensures, c.if-is_ahead.true)

pub returns-then-is_ahead-2 : goal.returns-then-is_ahead-2
unfolding comes_first
returns-then-is_ahead-2 c = rw (← c.is_ahead.ensures, c.if-is_ahead.false, ← c.is_ahead-2.ensures, c.if-is_ahead-2.true)

pub returns : goal.returns
unfolding comes_first
returns c = rw (← c.is_ahead.ensures, c.if-is_ahead.false, ← c.is_ahead-2.ensures, c.if-is_ahead-2.false, c.is_ahead-3.ensures)
