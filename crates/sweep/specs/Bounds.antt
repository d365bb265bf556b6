-- Early stop: no event to the right of a layer matters to an intersection, none to the right of the subject to a difference. `row` tells the
-- record with a number; the first n records are those loaded.
use Rattle.std.specs.Prelude.{Bool, true, false, cond, ◌||◌, ℕ, zero, suc, None, Some, Option}
use Rattle.std.specs.Bool.{beq}
use Rattle.numbers.specs.declared.Point.{Point}
use Rattle.events.specs.Coordinates.{Coordinates}
use Rattle.events.specs.Event.{Event}
use Rattle.class.specs.declared.Operation.{Operation}
use Rattle.class.specs.declared.Operation.TheVariants.{Intersection, Difference, Union, Xor}

module _ {P : Type 0} (C : Coordinates P) where
  -- the one with the larger x
  unfoldable pub farther : Option P → P → Option P
  farther None p = Some p
  farther (Some q) p = cond (C.less_x q p) (Some p) (Some q)

  -- a point of largest x among the first n records of a layer, subject or not; an empty layer has none
  unfoldable pub rightmost : (ℕ → Event P) → Bool → ℕ → Option P
  rightmost row subject zero = None
  rightmost row subject (suc n) =
      cond (beq (row n).subject subject) (farther (rightmost row subject n) (row n).point) (rightmost row subject n)

  -- to the right of it; an empty layer's largest x is below every number
  unfoldable pub is_right_of : Option P → P → Bool
  is_right_of None p = true
  is_right_of (Some q) p = C.less_x q p

  -- of the subject's and the clip's
  unfoldable pub is_past : Operation → Option P → Option P → P → Bool
  is_past Intersection subject clip p = is_right_of subject p || is_right_of clip p
  is_past Difference subject clip p = is_right_of subject p
  is_past Union subject clip p = false
  is_past Xor subject clip p = false

  unfoldable pub past : Operation → (ℕ → Event P) → ℕ → P → Bool
  past op row n p = is_past op (rightmost row true n) (rightmost row false n) p

-- ---- the enum of the code, at binary64

abbrev pub reach_of : Option Point → Option Point
reach_of None = None
reach_of (Some p) = Some p
