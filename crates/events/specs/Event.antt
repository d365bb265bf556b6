-- What an event record is, over any kind of point. Record numbers are counted from 0.
use Rattle.std.specs.Prelude.{ℕ, Bool, true, false, None, Option}
use Rattle.numbers.specs.declared.Point.{Point}
use Rattle.events.specs.declared.EdgeType.{EdgeType}
use Rattle.events.specs.declared.EdgeType.TheVariants.{Normal}
use Rattle.events.specs.declared.ResultTransition.{ResultTransition}
use Rattle.events.specs.declared.ResultTransition.TheVariants.{None as NoTransition, InOut, OutIn}
use Rattle.events.specs.declared.Event as D

-- one end of an edge
pub record Event (P : Type 0) : Type 0 where
  pub point : P
  pub left : Bool
  pub subject : Bool
  pub ring : ℕ
  pub partner : ℕ
  pub below : Option ℕ
  pub edge_type : EdgeType
  pub transition : ResultTransition
  pub in_out : Bool
  pub other_in_out : Bool
  pub contour : Option ℕ

-- an end that nothing is known of yet
abbrev pub fresh : {P : Type 0} → P → (left subject : Bool) → (ring partner : ℕ) → Event P
fresh p left subject ring partner =
    record {
      point = p;
      left = left;
      subject = subject;
      ring = ring;
      partner = partner;
      below = None;
      edge_type = Normal;
      transition = NoTransition;
      in_out = false;
      other_in_out = false;
      contour = None;
    }

-- a left end with this transition is in the result
unfoldable pub has_transition : ResultTransition → Bool
has_transition NoTransition = false
has_transition InOut = true
has_transition OutIn = true

-- What the orders see of a record and its partner: no record number, so that no order can depend on numbering.
pub record Key (P : Type 0) : Type 0 where
  pub point : P
  pub left : Bool
  pub subject : Bool
  pub ring : ℕ
  pub mate : P

-- of a record and its partner's point
unfoldable pub key : {P : Type 0} → Event P → P → Key P
key e p = record { point = e.point; left = e.left; subject = e.subject; ring = e.ring; mate = p }

-- the struct of the code, at binary64
abbrev pub shown : D.Event → Event Point
shown e =
    record {
      point = e.point;
      left = e.left;
      subject = e.subject;
      ring = e.ring;
      partner = e.partner;
      below = e.below;
      edge_type = e.edge_type;
      transition = e.transition;
      in_out = e.in_out;
      other_in_out = e.other_in_out;
      contour = e.contour;
    }
