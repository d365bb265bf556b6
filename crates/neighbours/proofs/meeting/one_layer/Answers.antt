-- The two records read are the definition's.
use mathlib.Core.Path.{ap₂}
use mathlib.Core.Bool.{beq}
use Rattle.events.specs.Event.{Event}
use Rattle.numbers.specs.declared.Point.{Point}
use Rattle.neighbours.proofs.meeting.one_layer.Goals as goal

pub returns : goal.returns
returns c = ap₂ (λ (e f : Event Point). beq e.subject f.subject) c.read_used.ensures c.read_used-2.ensures
