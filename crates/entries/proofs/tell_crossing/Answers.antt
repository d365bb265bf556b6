-- The case that was matched picks the number and the stores, each of a word.
use mathlib.Core.Path.{refl}
use Rattle.crossing.specs.Answer.{number_of, values_of}
use Rattle.entries.proofs.tell_crossing.Goals as goal

pub returns-in-None : goal.returns-in-None
unfolding number_of values_of
returns-in-None c = rw c.in-None.is (record { kind_after = refl; corners_after = refl })

pub returns-in-Point : goal.returns-in-Point
unfolding number_of values_of
returns-in-Point c =
    rw (c.in-Point.is, c.word.ensures, c.word-in-Point.ensures) (record { kind_after = refl; corners_after = refl })

pub returns-in-Overlap : goal.returns-in-Overlap
unfolding number_of values_of
returns-in-Overlap c =
    rw (c.in-Overlap.is, c.word-in-Overlap.ensures, c.word-in-Overlap-2.ensures, c.word-in-Overlap-3.ensures, c.word-in-Overlap-4.ensures) (record { kind_after = refl; corners_after = refl })

pub returns-in-Lost : goal.returns-in-Lost
unfolding number_of values_of
returns-in-Lost c = rw c.in-Lost.is (record { kind_after = refl; corners_after = refl })
