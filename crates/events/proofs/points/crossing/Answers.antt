-- Nothing where one lies all below the other; else of the four values.
use Rattle.std.proofs.Common.{sym, ◌∙◌}
use Rattle.events.specs.Binary64.{in_mode, shown_meeting}
use Rattle.events.proofs.Parted.{parts, is-under}
use Rattle.events.proofs.points.crossing.Goals as goal

pub returns-then-is_under : goal.returns-then-is_under
unfolding shown_meeting
returns-then-is_under c = sym ((parts _).above _ _ _ _ (is-under _ _ _ _ (sym c.is_under.ensures ∙ c.if-is_under.true)))

pub returns-then-is_under-2 : goal.returns-then-is_under-2
unfolding shown_meeting
returns-then-is_under-2 c = sym ((parts _).below _ _ _ _ (is-under _ _ _ _ (sym c.is_under-2.ensures ∙ c.if-is_under-2.true)))

pub returns : goal.returns
unfolding in_mode
returns c =
    rw (c.in_words.ensures, c.intersection.ensures, c.value_of.ensures, c.value_of-2.ensures, c.value_of-3.ensures, c.value_of-4.ensures)
