-- The code's event struct with its two changes.
use Rattle.std.specs.Prelude.{Bool, ℕ}
use Rattle.events.specs.declared.Event.{Event}

-- with another partner and another flag
abbrev pub relinked : Event → ℕ → Bool → Event
relinked e k l =
    record {
      point = e.point;
      left = l;
      subject = e.subject;
      ring = e.ring;
      partner = k;
      below = e.below;
      edge_type = e.edge_type;
      transition = e.transition;
      in_out = e.in_out;
      other_in_out = e.other_in_out;
      contour = e.contour;
    }
