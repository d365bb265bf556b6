-- Field by field.
use mathlib.Core.Path.{refl}
use Rattle.rows.specs.Rows.{end_of}
use Rattle.rows.proofs.end_of.Goals as goal

pub returns : goal.returns
unfolding end_of
returns c = refl
