-- Another numbering of records: record r is called ρ r. What a record holds that is no record number stays; a contour's number is none.
use Rattle.std.specs.Prelude.{ℕ, None, Option, Some}
use Rattle.events.specs.Event.{Event}

unfoldable pub rename_link : (ℕ → ℕ) → Option ℕ → Option ℕ
rename_link ρ None = None
rename_link ρ (Some b) = Some (ρ b)

-- links renamed
unfoldable pub rename : {P : Type 0} → (ℕ → ℕ) → Event P → Event P
rename ρ e =
    record {
      point = e.point;
      left = e.left;
      subject = e.subject;
      ring = e.ring;
      partner = ρ e.partner;
      below = rename_link ρ e.below;
      edge_type = e.edge_type;
      transition = e.transition;
      in_out = e.in_out;
      other_in_out = e.other_in_out;
      contour = e.contour;
    }
