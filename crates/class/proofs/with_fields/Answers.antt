-- Field by field.
use mathlib.Core.Path.{refl}
use Rattle.class.specs.Class.{written}
use Rattle.class.proofs.with_fields.Goals as goal

pub returns : goal.returns
unfolding written
returns c = refl
