-- The record read is the definition's.
use mathlib.Core.Path.{ap}
use Rattle.events.specs.Event.{Event}
use Rattle.numbers.specs.declared.Point.{Point}
use Rattle.neighbours.proofs.overlap.left_point.Goals as goal

pub returns : goal.returns
returns c = ap (λ (e : Event Point). e.point) c.read_used-e.ensures
