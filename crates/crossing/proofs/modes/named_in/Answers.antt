-- The mode decides.
use borrow.Author.Tests.{eq-eqb, ne_eqb}
use Rattle.crossing.specs.Modes.{named_in}
use Rattle.crossing.proofs.modes.named_in.Goals as goal

pub returns-then-mode-eq-PLAIN : goal.returns-then-mode-eq-PLAIN
unfolding named_in
returns-then-mode-eq-PLAIN c = rw (eq-eqb _ _ c.if-mode-eq-PLAIN.true)

pub returns : goal.returns
unfolding named_in
returns c = rw (ne_eqb _ _ c.if-mode-eq-PLAIN.false, c.ordered_pair.ensures)
