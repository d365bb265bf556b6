-- The record of the refusal, as it is.
use Rattle.acceptance.specs.OnPool.{room_refused}
use mathlib.Core.Path.{refl}
use Rattle.acceptance.proofs.room.room_refused.Goals as goal

pub returns : goal.returns
unfolding room_refused
returns c = refl
