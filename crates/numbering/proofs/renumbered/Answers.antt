-- Two marks are written, or say it already; the point is two words.
use Rattle.numbering.proofs.Settling.{stored-point}
use Rattle.numbering.proofs.TwoMarks.{two-marks, stays}
use Rattle.numbering.proofs.renumbered.Goals as goal

pub returns-then-number-m : goal.returns-then-number-m
returns-then-number-m c =
    record {
      marks = stays _ _ _ c.well_formed.1.0.1.0.1 (rw c.there_over-there.ensures at c.if-there-m.true) (rw c.link_over-number.ensures at c.if-number-m.true);
      point = stored-point _ _ c.well_formed.0.1.0.1;
    }

pub returns : goal.returns
returns c =
    record {
      marks = rw (c.there_over-there.ensures, c.link_over-number.ensures) (two-marks _ _ _ c.well_formed.1.0.1.0.1);
      point = stored-point _ _ c.well_formed.0.1.0.1;
    }
