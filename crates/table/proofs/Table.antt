-- The table holds in both modes: every row computes.
use mathlib.Core.Path.{refl}
use lib.Ieee.{add, sub, mul, div, lt, le, eq, ne, of_bits}
use Rattle.numbers.specs.Binary64.{unsigned}
use Rattle.numbers.specs.Points.{is_ahead, unsigned_point}
use Rattle.numbers.specs.Exact.{size, negative}
use Rattle.orientation.specs.Orientation as Orientation
use Rattle.orientation.specs.Orientation.{signed_area, sign_of}
use Rattle.crossing.specs.Boxes.{box_from, shared_box, clamp, constrained_to, or_lost}
use Rattle.crossing.specs.Lines.{minus, crossing_at, shared_from, along, intersection_impl}
use Rattle.crossing.specs.Modes.{ends_in_order, comes_first, in_order, unsigned_segment, ordered_pair, named_in}
use Rattle.crossing.specs.Crossing.{in_box, intersection_of, intersection_of_pair, intersection_in}
use Rattle.crossing.specs.Answer.{number_of, values_of}
use Rattle.division.proofs.Worked.{p10, p11}
use Rattle.table.specs.Table.{Table}

pub table : Table
unfolding unsigned is_ahead unsigned_point ends_in_order comes_first in_order unsigned_segment ordered_pair named_in intersection_in intersection_of_pair number_of values_of intersection_of in_box or_lost constrained_to clamp intersection_impl along shared_from crossing_at minus shared_box box_from add sub mul div lt le eq ne of_bits signed_area sign_of Orientation.number_of size negative
table =
    record {
      plainly = record {
        P1 = record { number_is = refl; values_are = refl };
        P2 = record { number_is = refl; values_are = refl };
        P3 = record { number_is = refl; values_are = refl };
        P4 = record { number_is = refl; values_are = refl };
        P5 = record { number_is = refl; values_are = refl };
        P6 = record { number_is = refl; values_are = refl };
        P7 = record { number_is = refl; values_are = refl };
        P8 = record { number_is = refl; values_are = refl };
      };
      in_order = record {
        P1 = record { number_is = refl; values_are = refl };
        P2 = record { number_is = refl; values_are = refl };
        P3 = record { number_is = refl; values_are = refl };
        P4 = record { number_is = refl; values_are = refl };
        P5 = record { number_is = refl; values_are = refl };
        P6 = record { number_is = refl; values_are = refl };
        P7 = record { number_is = refl; values_are = refl };
        P8 = record { number_is = refl; values_are = refl };
      };
      P9 = refl;
      P10 = p10;
      P11 = p11;
    }
