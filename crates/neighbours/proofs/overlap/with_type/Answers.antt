-- The struct written anew is the definition.
use mathlib.Core.Path.{refl}
use Rattle.neighbours.specs.Neighbours.{typed}
use Rattle.neighbours.proofs.overlap.with_type.Goals as goal

pub returns : goal.returns
unfolding typed
returns c = refl
