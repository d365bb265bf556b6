-- The test is the definition's.
use borrow.Author.Tests.{eq-eqb, ne_eqb}
use Rattle.connection.specs.Steps.{outcome_in}
use Rattle.connection.proofs.answer.outcome_of.Goals as goal

pub returns-then-stop-eq0 : goal.returns-then-stop-eq0
unfolding outcome_in
returns-then-stop-eq0 c = rw (eq-eqb _ _ c.if-stop-eq0.true)

pub returns : goal.returns
unfolding outcome_in
returns c = rw (ne_eqb _ _ c.if-stop-eq0.false, ← c.record_at.ensures)
