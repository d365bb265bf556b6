-- By the points where they differ, else by the lower number's side.
use mathlib.Core.Path.{sym, ◌∙◌}
use borrow.Author.Tests.{lt-ltb, le-ltb}
use Rattle.waiting.specs.Queue as Queue
use Rattle.waiting.proofs.Ahead.{ahead-leads, ahead-led, one-point}
use Rattle.waiting.proofs.leads.Goals as goal

pub returns-then-is_ahead_of : goal.returns-then-is_ahead_of
returns-then-is_ahead_of c = sym (ahead-leads _ _ _ _ (sym c.is_ahead_of.ensures ∙ c.if-is_ahead_of.true))

pub returns-then-is_ahead_of-2 : goal.returns-then-is_ahead_of-2
returns-then-is_ahead_of-2 c = sym (ahead-led _ _ _ _ (sym c.is_ahead_of-2.ensures ∙ c.if-is_ahead_of-2.true))

pub returns-then-a-b : goal.returns-then-a-b
unfolding Queue.leads
returns-then-a-b c =
    rw (lt-ltb _ _ c.if-a-b.true) (c.is_before_there.ensures ∙ sym (one-point _ _ _ _ (sym c.is_ahead_of.ensures ∙ c.if-is_ahead_of.false) (sym c.is_ahead_of-2.ensures ∙ c.if-is_ahead_of-2.false)))

pub returns : goal.returns
unfolding Queue.leads
returns c =
    rw (le-ltb _ _ c.if-a-b.false, c.is_before_there-2.ensures, one-point _ _ _ _ (sym c.is_ahead_of-2.ensures ∙ c.if-is_ahead_of-2.false) (sym c.is_ahead_of.ensures ∙ c.if-is_ahead_of.false))
