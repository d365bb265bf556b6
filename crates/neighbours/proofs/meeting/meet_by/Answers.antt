-- The case that was matched picks the definition's line.
use mathlib.Core.Path.{refl, ap}
use Rattle.events.specs.Binary64.{shown_meeting}
use Rattle.neighbours.specs.Neighbours.{ended, met_by}
use Rattle.neighbours.proofs.Meetings.{still-is, none-met, lost-met, point-met, one-layer, two_layers}
use Rattle.neighbours.proofs.meeting.meet_by.Goals as goal

pub returns-then-one_layer : goal.returns-then-one_layer
unfolding shown_meeting ended met_by
returns-then-one_layer c = one-layer _ _ _ _ _ _ _ _ _ _ _ _ _ (ap shown_meeting c.in-Along.is) c.one_layer.ensures c.if-one_layer.true (still-is _ _ _ _ _ _ c.still-then-one_layer.ensures.0 c.still-then-one_layer.ensures.1 c.ended-then-one_layer.ensures.0 c.ended-then-one_layer.ensures.1)

pub returns-in-Nothing : goal.returns-in-Nothing
unfolding shown_meeting ended met_by
returns-in-Nothing c = none-met _ _ _ _ _ _ _ _ _ _ (ap shown_meeting c.in-Nothing.is) (still-is _ _ _ _ _ _ c.still.ensures.0 c.still.ensures.1 c.ended.ensures.0 c.ended.ensures.1)

pub returns-in-Lost : goal.returns-in-Lost
unfolding shown_meeting ended met_by
returns-in-Lost c = lost-met _ _ _ _ _ _ _ _ _ _ (ap shown_meeting c.in-Lost.is) refl

pub returns-in-At : goal.returns-in-At
unfolding shown_meeting ended met_by
returns-in-At c = point-met _ _ _ _ _ _ _ _ _ _ _ (ap shown_meeting c.in-At.is) c.meet_at.ensures

pub returns-else-one_layer : goal.returns-else-one_layer
unfolding shown_meeting ended met_by
returns-else-one_layer c = two_layers _ _ _ _ _ _ _ _ _ _ _ _ _ (ap shown_meeting c.in-Along.is) c.one_layer.ensures c.if-one_layer.false c.overlap.ensures
