-- Small lists that compute, on the grid of natural numbers: two squares that touch; and that each hypothesis of demand 3 is needed.
use Rattle.refusals.specs.Refusals.{number}
use Rattle.std.proofs.Common.{None, Some, Option}
use mathlib.Core.Path.{◌≡◌, refl}
use mathlib.Core.Bool.{Bool, true, false}
use mathlib.Core.List.{List, [], ◌∷◌, ◌++◌, map}
use Prim.Native.Nat.{ℕ, ◌+◌}
use lib.ListN.{length, get_or, set}
use Rattle.events.specs.declared.EdgeType.TheVariants.{Normal}
use Rattle.events.specs.declared.ResultTransition.{ResultTransition}
use Rattle.events.specs.declared.ResultTransition.TheVariants.{None as NoTransition, InOut, OutIn}
use Rattle.events.specs.Coordinates.{same, ahead}
use Rattle.events.specs.Event.{Event, key}
use Rattle.events.specs.Store.{Store}
use Rattle.order.specs.Order.{by_number, by_end, by_turn, by_layer, before}
use Rattle.order.proofs.Steps.{sign_from}
use Rattle.order.proofs.Grid.{Spot, plus, minus, grid}
use Rattle.checks.specs.Checks.{missized, outside, unpaired, alike, in_order, misordered, not_to_left, misled, mistaken, unfit_at, named, mate, and_then, sized}
use Rattle.checks.specs.Numbers.{numbers_from}
use Rattle.order.specs.Keys.{key_of}
use Rattle.events.specs.Event.{has_transition}
use Rattle.contours.specs.Result.{keep, insert, sort, in_result, results, result_edges, earlier, ordered}
use Rattle.contours.specs.Table.{place, is_out_in, below_of, row_of, table, row_at}
use Rattle.contours.specs.Round.{down, is_open, seek, rights, lefts, tries}
use Rattle.contours.specs.Walk.{halt, onward, mark, marks, walk, corners}
use Rattle.contours.specs.Contours.{hole, under, loose, owned, context, turn, make, turns, trace}
use Rattle.contours.specs.Outline.{Outline, final, closes, is_parent, holes_of, outline, outlines_from, outlines}
use Rattle.contours.specs.Accept.{at_most, lowest, refused_at, told_lowest, list_sized, listed, twice, misplaced, half_listed, Room, room_for, roomy, accept}
use Rattle.contours.specs.Connect.{Outcome, refused, stopped, connected, finished, outcome_of, traced, after_checks, connect}

-- ---- a list of events as a store

spot : ℕ → ℕ → Spot
spot x y = record { x = x; y = y }

end : Spot → Bool → ℕ → Option ℕ → ResultTransition → Event Spot
end p left partner below t =
    record {
      point = p;
      left = left;
      subject = true;
      ring = 0;
      partner = partner;
      below = below;
      edge_type = Normal;
      transition = t;
      in_out = false;
      other_in_out = false;
      contour = None;
    }

blank : ℕ → Event Spot
unfolding end spot
blank i = end (spot 0 0) false i None NoTransition

events : Store Spot (List (Event Spot))
unfolding blank
events = record { size = length; row_at = λ s i. get_or s i (blank i); enter = set; store = set; blank = blank }

-- what is told: the number of the refusal or 0, and for each contour its corners, parent, depth, holes and whether it is open
record Shown : Type 0 where
  corners : List Spot
  parent : Option ℕ
  depth : ℕ
  holes : List ℕ
  unclosed : Bool

shown : Outline Spot → Shown
shown o = record { corners = o.corners; parent = o.parent; depth = o.depth; holes = o.holes; unclosed = o.unclosed }

told : Outcome Spot (List (Event Spot)) → ℕ × ℕ × List Shown
told (refused r) = (number r.reason, r.place, [])
told (stopped r f) = (number r.reason, r.place, map shown f.outlines)
told (connected f) = (0, 0, map shown f.outlines)

ample : Room
ample = record { points = 16; contours = 8; holes = 8 }

-- all that an example computes with is named here, once
run : List (Event Spot) → List ℕ → ℕ × ℕ × List Shown
unfolding told shown ample events blank end spot connect accept list_sized sized missized and_then told_lowest refused_at lowest at_most unfit_at mistaken outside unpaired alike in_order misordered not_to_left misled named mate misplaced twice listed half_listed in_result has_transition roomy room_for results result_edges keep ordered sort insert earlier key_of key before by_number by_end by_turn by_layer grid same ahead plus minus sign_from table row_of below_of place is_out_in row_at traced trace turns turn make context owned loose under hole walk onward halt seek is_open tries rights lefts numbers_from down mark marks corners finished outcome_of after_checks outlines outlines_from outline holes_of is_parent closes final
run s list = told (connect grid events s (length s) (length s) list ample)

-- ---- two squares, 0..1 and 1..2, that touch at (1,1): two contours of five points, starting (0,0) and (1,1)

-- bottom, right, top and left edge of the square from (a,a) to (a+1,a+1); its first record is k, the bottom edge lies below the top one
square : ℕ → ℕ → List (Event Spot)
unfolding end spot
square k a =
    end (spot a a) true (k + 1) None OutIn
    ∷ end (spot (a + 1) a) false k None OutIn
    ∷ end (spot (a + 1) a) true (k + 3) None InOut
    ∷ end (spot (a + 1) (a + 1)) false (k + 2) None InOut
    ∷ end (spot a (a + 1)) true (k + 5) (Some k) InOut
    ∷ end (spot (a + 1) (a + 1)) false (k + 4) None InOut
    ∷ end (spot a a) true (k + 7) (Some k) InOut
    ∷ end (spot a (a + 1)) false (k + 6) None InOut
    ∷ []

round-square : ℕ → Shown
unfolding spot
round-square a =
    record {
      corners = spot a a ∷ spot (a + 1) a ∷ spot (a + 1) (a + 1) ∷ spot a (a + 1) ∷ spot a a ∷ [];
      parent = None;
      depth = 0;
      holes = [];
      unclosed = false;
    }

touching : run (square 0 0 ++ square 8 1) (numbers_from 0 16) ≡ (0, 0, round-square 0 ∷ round-square 1 ∷ [])
unfolding run square round-square
touching = refl

-- in any other listing
touching-again : run (square 0 0 ++ square 8 1) (down 0 16) ≡ (0, 0, round-square 0 ∷ round-square 1 ∷ [])
unfolding run square round-square
touching-again = refl

-- ---- order needs the directions: two equal edges (1,1)-(2,1), the second above an edge that is OutIn and not listed

twins : List (Event Spot)
unfolding end spot
twins =
    end (spot 1 1) true 1 None InOut
    ∷ end (spot 2 1) false 0 None InOut
    ∷ end (spot 1 1) true 3 (Some 4) InOut
    ∷ end (spot 2 1) false 2 None InOut
    ∷ end (spot 0 0) true 5 None OutIn
    ∷ end (spot 3 0) false 4 None OutIn
    ∷ []

there_and_back : Shown
unfolding spot
there_and_back = record { corners = spot 1 1 ∷ spot 2 1 ∷ spot 1 1 ∷ []; parent = None; depth = 0; holes = []; unclosed = false }

one_way : run twins (0 ∷ 1 ∷ 2 ∷ 3 ∷ []) ≡ (0, 0, there_and_back ∷ [])
unfolding run twins there_and_back
one_way = refl

other_way : run twins (2 ∷ 3 ∷ 0 ∷ 1 ∷ []) ≡ (9, 2, [])
unfolding run twins
other_way = refl

-- ---- closing needs the even ends: a single edge is an open contour

lone : run (end (spot 0 0) true 1 None OutIn ∷ end (spot 1 0) false 0 None OutIn ∷ []) (0 ∷ 1 ∷ [])
    ≡ (0, 0, record { corners = spot 0 0 ∷ spot 1 0 ∷ []; parent = None; depth = 0; holes = []; unclosed = true } ∷ [])
unfolding run end spot
lone = refl

-- ---- every demand needs the checks: an edge of which one end is not listed

half : run (end (spot 0 0) true 1 None OutIn ∷ end (spot 1 0) false 0 None OutIn ∷ []) (1 ∷ []) ≡ (8, 1, [])
unfolding run end spot
half = refl

-- ---- a square in a square is a hole of it at depth 1

nested : run (
    end (spot 0 0) true 1 None OutIn
    ∷ end (spot 3 0) false 0 None OutIn
    ∷ end (spot 3 0) true 3 None InOut
    ∷ end (spot 3 3) false 2 None InOut
    ∷ end (spot 0 3) true 5 (Some 0) InOut
    ∷ end (spot 3 3) false 4 None InOut
    ∷ end (spot 0 0) true 7 (Some 0) InOut
    ∷ end (spot 0 3) false 6 None InOut
    ∷ end (spot 1 1) true 9 (Some 0) InOut
    ∷ end (spot 2 1) false 8 None InOut
    ∷ end (spot 2 1) true 11 (Some 0) OutIn
    ∷ end (spot 2 2) false 10 None OutIn
    ∷ end (spot 1 2) true 13 (Some 8) OutIn
    ∷ end (spot 2 2) false 12 None OutIn
    ∷ end (spot 1 1) true 15 (Some 8) OutIn
    ∷ end (spot 1 2) false 14 None OutIn
    ∷ []) (numbers_from 0 16)
    ≡ (
      0,
      0,
      record { corners = spot 0 0 ∷ spot 3 0 ∷ spot 3 3 ∷ spot 0 3 ∷ spot 0 0 ∷ []; parent = None; depth = 0; holes = 1 ∷ []; unclosed = false }
          ∷ record { corners = spot 1 1 ∷ spot 2 1 ∷ spot 2 2 ∷ spot 1 2 ∷ spot 1 1 ∷ []; parent = Some 0; depth = 1; holes = []; unclosed = false } ∷ [],
    )
unfolding run end spot
nested = refl

-- ---- the cases of `initialize_from_context`, by single edges one above the other: nothing below; inside a contour; inside a hole; outside; and above
-- an edge that is not OutIn and has no contour, the last, which is not listed

line : ℕ → ℕ → ℕ → Option ℕ → ResultTransition → List (Event Spot)
unfolding end spot
line k x y below t = end (spot x y) true (k + 1) below t ∷ end (spot (x + 1) y) false k None t ∷ []

lined : ℕ → ℕ → Option ℕ → ℕ → List ℕ → Shown
unfolding spot
lined x y p d hs = record { corners = spot x y ∷ spot (x + 1) y ∷ []; parent = p; depth = d; holes = hs; unclosed = true }

contexts : run (line 0 0 0 None OutIn ++ line 2 1 1 (Some 0) OutIn ++ line 4 2 2 (Some 2) InOut ++ line 6 3 3 (Some 4) OutIn ++ line 8 4 4 (Some 10) OutIn ++ line 10 5 5 None InOut) (numbers_from 0 10)
    ≡ (0, 0, lined 0 0 None 0 (1 ∷ 2 ∷ []) ∷ lined 1 1 (Some 0) 1 [] ∷ lined 2 2 (Some 0) 1 [] ∷ lined 3 3 None 1 [] ∷ lined 4 4 None 0 [] ∷ [])
unfolding run line lined
contexts = refl
