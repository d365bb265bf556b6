-- The record written out is the definition.
use Rattle.std.proofs.Common.{refl}
use Rattle.events.proofs.fresh_event.Goals as goal

pub returns : goal.returns
returns c = refl
