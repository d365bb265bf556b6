-- What each test that was passed says, and then the answer.
use mathlib.Core.Path.{sym, ◌∙◌}
use Rattle.crossing.specs.Lines.{crossing_at}
use Rattle.crossing.proofs.lines.crossing_at.Goals as goal

pub returns-then-is_outside : goal.returns-then-is_outside
unfolding crossing_at
returns-then-is_outside c = rw (← c.is_outside.ensures, c.if-is_outside.true)

pub returns-then-is_outside-2 : goal.returns-then-is_outside-2
unfolding crossing_at
returns-then-is_outside-2 c = rw (sym c.is_outside.ensures ∙ c.if-is_outside.false, ← c.is_outside-2.ensures, c.if-is_outside-2.true)

pub returns-then-is_at_end : goal.returns-then-is_at_end
unfolding crossing_at
returns-then-is_at_end c =
    rw (sym c.is_outside.ensures ∙ c.if-is_outside.false, sym c.is_outside-2.ensures ∙ c.if-is_outside-2.false, ← c.is_at_end.ensures, c.if-is_at_end.true, c.mid_point.ensures)

pub returns-then-is_at_end-2 : goal.returns-then-is_at_end-2
unfolding crossing_at
returns-then-is_at_end-2 c =
    rw (sym c.is_outside.ensures ∙ c.if-is_outside.false, sym c.is_outside-2.ensures ∙ c.if-is_outside-2.false, sym c.is_at_end.ensures ∙ c.if-is_at_end.false, ← c.is_at_end-2.ensures, c.if-is_at_end-2.true, c.mid_point-then-is_at_end-2.ensures)

pub returns : goal.returns
unfolding crossing_at
returns c =
    rw (sym c.is_outside.ensures ∙ c.if-is_outside.false, sym c.is_outside-2.ensures ∙ c.if-is_outside-2.false, sym c.is_at_end.ensures ∙ c.if-is_at_end.false, ← c.is_at_end-2.ensures, c.if-is_at_end-2.false, c.mid_point-2.ensures)
