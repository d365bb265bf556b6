-- What can be printed so that it is read back: every number in 64 bits.
use Rattle.std.specs.Prelude.{List, [], ◌∷◌, ℕ, ◌<◌, length, Option, None, Some}
use Rattle.numbers.specs.declared.Point.{Point}
use Rattle.sheet.specs.Sheet.{CornerFits}
use Rattle.printing.specs.Printing.{Drawn}

abbrev pub ParentFits : Option ℕ → Type 0
ParentFits None = Unit {0}
ParentFits (Some p) = p < 18446744073709551616

abbrev pub NumbersFit : List ℕ → Type 0
NumbersFit [] = Unit {0}
NumbersFit (n ∷ l) = (n < 18446744073709551616) × NumbersFit l

abbrev pub CornersFit : List Point → Type 0
CornersFit [] = Unit {0}
CornersFit (p ∷ l) = CornerFits p × CornersFit l

pub record DrawnFits (d : Drawn) : Type 0 where
  pub parent : ParentFits d.parent
  pub depth : d.depth < 18446744073709551616
  pub holes : NumbersFit d.holes
  pub few : length d.holes < 18446744073709551616
  pub corners : CornersFit d.corners
  pub short : length d.corners < 18446744073709551616

abbrev pub AllFit : List Drawn → Type 0
AllFit [] = Unit {0}
AllFit (d ∷ l) = DrawnFits d × AllFit l
