-- The struct has the definition's fields.
use mathlib.Core.Path.{refl}
use Rattle.events.specs.Event.{key}
use Rattle.order.proofs.key_of.Goals as goal

pub returns : goal.returns
unfolding key
returns c = refl
