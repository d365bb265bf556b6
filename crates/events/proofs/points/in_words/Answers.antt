-- Each kind of answer in its clause.
use Rattle.events.specs.Binary64.{cross_of, shown_meeting}
use Rattle.events.proofs.points.in_words.Goals as goal

pub returns-in-None : goal.returns-in-None
unfolding shown_meeting cross_of
returns-in-None c = rw c.in-None.is

pub returns-in-Point : goal.returns-in-Point
unfolding shown_meeting cross_of
returns-in-Point c = rw (c.in-Point.is, c.words_of.ensures)

pub returns-in-Overlap : goal.returns-in-Overlap
unfolding shown_meeting cross_of
returns-in-Overlap c = rw (c.in-Overlap.is, c.words_of-in-Overlap.ensures, c.words_of-in-Overlap-2.ensures)

pub returns-in-Lost : goal.returns-in-Lost
unfolding shown_meeting cross_of
returns-in-Lost c = rw c.in-Lost.is
