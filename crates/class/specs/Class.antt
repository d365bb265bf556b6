-- Edge class (01, 'Edge class'), over any kind of point: flags and below link from the lower neighbour, then whether the operation takes the
-- edge into the result, and which way. In-out: going up across the edge, its own layer is left. Other-in-out: the edge is outside the other layer.
use Rattle.std.specs.Prelude.{Bool, true, false, cond, not, ◌&&◌, ◌||◌, ℕ, Option, Some, None}
use Rattle.std.specs.Bool.{xor, beq}
use Rattle.numbers.specs.declared.Point.{Point}
use Rattle.events.specs.declared.EdgeType.{EdgeType}
use Rattle.events.specs.declared.EdgeType.TheVariants.{Normal, NonContributing, SameTransition, DifferentTransition}
use Rattle.events.specs.declared.ResultTransition.{ResultTransition}
use Rattle.events.specs.declared.ResultTransition.TheVariants.{None as NoTransition, InOut, OutIn}
use Rattle.events.specs.Event.{Event, has_transition, shown}
use Rattle.class.specs.declared.Operation.{Operation}
use Rattle.class.specs.declared.Operation.TheVariants.{Intersection, Difference, Union, Xor}
use Rattle.class.specs.declared.Neighbour.{Neighbour as CodeNeighbour}

-- the left record of the edge next below, with its number
pub record Neighbour (P : Type 0) : Type 0 where
  pub number : ℕ
  pub event : Event P
  pub vertical : Bool

-- a record with these flags, below link and transition, and all else as it was
unfoldable pub written : {P : Type 0} → Event P → Bool → Bool → Option ℕ → ResultTransition → Event P
written e in_out other_in_out below transition =
    record {
      point = e.point;
      left = e.left;
      subject = e.subject;
      ring = e.ring;
      partner = e.partner;
      below = below;
      edge_type = e.edge_type;
      transition = transition;
      in_out = in_out;
      other_in_out = other_in_out;
      contour = e.contour;
    }

-- ---- from the lower neighbour

-- The flags above a neighbour: whether it is of the same layer, whether it is vertical, and its own flags. What is in-out for an edge is
-- other-in-out for one of the other layer.
unfoldable pub in_out_above : Bool → Bool → Bool → Bool
in_out_above true in_out other_in_out = not in_out
in_out_above false in_out other_in_out = not other_in_out

unfoldable pub other_in_out_above : Bool → Bool → Bool → Bool → Bool
other_in_out_above true vertical in_out other_in_out = other_in_out
other_in_out_above false true in_out other_in_out = not in_out
other_in_out_above false false in_out other_in_out = in_out

-- a record tells by its transition whether it is in the result
abbrev pub is_in_result : {P : Type 0} → Event P → Bool
is_in_result e = has_transition e.transition

-- the neighbour if it is in the result and not vertical, else what it has below it
unfoldable pub below_above : {P : Type 0} → Neighbour P → Option ℕ
below_above n = cond n.vertical n.event.below (cond (is_in_result n.event) (Some n.number) n.event.below)

-- flags and below link set; with nothing below, the edge enters its own layer and is outside the other
unfoldable pub set_from_lower : {P : Type 0} → Event P → Option (Neighbour P) → Event P
set_from_lower e None = written e false true None e.transition
set_from_lower e (Some n) =
    let prev = n.event in
    let same = beq e.subject prev.subject in
    written e (in_out_above same prev.in_out prev.other_in_out) (other_in_out_above same n.vertical prev.in_out prev.other_in_out) (below_above n) e.transition

-- ---- in result

-- a Normal edge, by its layer and other-in-out
unfoldable pub normal_in_result : Operation → Bool → Bool → Bool
normal_in_result Intersection subject other_in_out = not other_in_out
normal_in_result Union subject other_in_out = other_in_out
normal_in_result Xor subject other_in_out = true
normal_in_result Difference subject other_in_out = cond subject other_in_out (not other_in_out)

-- two edges of both layers coincide: both are entered or both left
unfoldable pub same_in_result : Operation → Bool
same_in_result Intersection = true
same_in_result Union = true
same_in_result Xor = false
same_in_result Difference = false

-- .. one is entered and the other left
unfoldable pub different_in_result : Operation → Bool
different_in_result Intersection = false
different_in_result Union = false
different_in_result Xor = false
different_in_result Difference = true

unfoldable pub in_result_as : EdgeType → Operation → Bool → Bool → Bool
in_result_as Normal op subject other_in_out = normal_in_result op subject other_in_out
in_result_as SameTransition op subject other_in_out = same_in_result op
in_result_as DifferentTransition op subject other_in_out = different_in_result op
in_result_as NonContributing op subject other_in_out = false

abbrev pub in_result : {P : Type 0} → Operation → Event P → Bool
in_result op e = in_result_as e.edge_type op e.subject e.other_in_out

-- ---- transition

-- the set operation, told from an edge's layer: inside its own, inside the other
unfoldable pub holds_above : Operation → Bool → Bool → Bool → Bool
holds_above Intersection subject own other = own && other
holds_above Union subject own other = own || other
holds_above Xor subject own other = xor own other
holds_above Difference subject own other = cond subject (own && not other) (other && not own)

-- the way of an edge in the result; coincidence is not looked at
unfoldable pub direction : {P : Type 0} → Operation → Event P → ResultTransition
direction op e = cond (holds_above op e.subject (not e.in_out) (not e.other_in_out)) OutIn InOut

unfoldable pub transition_in : {P : Type 0} → Operation → Event P → ResultTransition
transition_in op e = cond (in_result op e) (direction op e) NoTransition

-- ---- all of it: flags and below link first, and the transition by them

abbrev pub decided : {P : Type 0} → Operation → Event P → Event P
decided op e = written e e.in_out e.other_in_out e.below (transition_in op e)

unfoldable pub fields : {P : Type 0} → Operation → Event P → Option (Neighbour P) → Event P
fields op e lower = decided op (set_from_lower e lower)

-- ---- the structs of the code, at binary64

abbrev pub shown_neighbour : CodeNeighbour → Neighbour Point
shown_neighbour n = record { number = n.number; event = shown n.event; vertical = n.vertical }

abbrev pub shown_lower : Option CodeNeighbour → Option (Neighbour Point)
shown_lower None = None
shown_lower (Some n) = Some (shown_neighbour n)
