-- The definitions of edge class against the truth table, every row computed.
use mathlib.Core.Path.{◌≡◌, refl}
use mathlib.Core.Bool.{Bool, true, false, not, cond, xor, beq}
use Rattle.events.specs.declared.ResultTransition.TheVariants.{None as NoTransition, InOut, OutIn}
use Rattle.class.specs.declared.Operation.{Operation}
use Rattle.class.specs.declared.Operation.TheVariants.{Intersection, Difference, Union, Xor}
use Rattle.events.specs.Event.{has_transition}
use Rattle.class.specs.Class.{normal_in_result, same_in_result, different_in_result, holds_above}
use Rattle.class.specs.Truth.{holds, place, changes, turn}

-- the table as an edge of the subject tells it, and as one of the clip: inside its own layer, inside the other
pub told : (op : Operation) (mine theirs : Bool) → (holds_above op true mine theirs ≡ holds op mine theirs) × (holds_above op false mine theirs ≡ holds op theirs mine)
unfolding holds holds_above xor
told Intersection false false = (refl, refl)
told Intersection false true = (refl, refl)
told Intersection true false = (refl, refl)
told Intersection true true = (refl, refl)
told Difference false false = (refl, refl)
told Difference false true = (refl, refl)
told Difference true false = (refl, refl)
told Difference true true = (refl, refl)
told Union false false = (refl, refl)
told Union false true = (refl, refl)
told Union true false = (refl, refl)
told Union true true = (refl, refl)
told Xor false false = (refl, refl)
told Xor false true = (refl, refl)
told Xor true false = (refl, refl)
told Xor true true = (refl, refl)

-- a Normal edge of the subject, and one of the clip: its own layer below it and not above, or the other way round, and the other layer on both sides or on none
pub normal-rows : (op : Operation) (in_out other_in_out : Bool) → (normal_in_result op true other_in_out ≡ changes op (record { below = place in_out (not other_in_out); above = place (not in_out) (not other_in_out) })) × (normal_in_result op false other_in_out ≡ changes op (record { below = place (not other_in_out) in_out; above = place (not other_in_out) (not in_out) }))
unfolding holds normal_in_result
normal-rows Intersection false false = (refl, refl)
normal-rows Intersection false true = (refl, refl)
normal-rows Intersection true false = (refl, refl)
normal-rows Intersection true true = (refl, refl)
normal-rows Difference false false = (refl, refl)
normal-rows Difference false true = (refl, refl)
normal-rows Difference true false = (refl, refl)
normal-rows Difference true true = (refl, refl)
normal-rows Union false false = (refl, refl)
normal-rows Union false true = (refl, refl)
normal-rows Union true false = (refl, refl)
normal-rows Union true true = (refl, refl)
normal-rows Xor false false = (refl, refl)
normal-rows Xor false true = (refl, refl)
normal-rows Xor true false = (refl, refl)
normal-rows Xor true true = (refl, refl)

-- inside both layers below and neither above, or the other way round
pub same_rows : (op : Operation) (inside : Bool) → same_in_result op ≡ changes op (record { below = place inside inside; above = place (not inside) (not inside) })
unfolding holds same_in_result
same_rows Intersection false = refl
same_rows Intersection true = refl
same_rows Difference false = refl
same_rows Difference true = refl
same_rows Union false = refl
same_rows Union true = refl
same_rows Xor false = refl
same_rows Xor true = refl

-- inside one layer below and the other above
pub different-rows : (op : Operation) (inside : Bool) → different_in_result op ≡ changes op (record { below = place inside (not inside); above = place (not inside) (not (not inside)) })
unfolding holds different_in_result
different-rows Intersection false = refl
different-rows Intersection true = refl
different-rows Difference false = refl
different-rows Difference true = refl
different-rows Union false = refl
different-rows Union true = refl
different-rows Xor false = refl
different-rows Xor true = refl

pub turned : (below above : Bool) → cond (not (beq below above)) (cond above OutIn InOut) NoTransition ≡ turn below above
unfolding turn
turned false false = refl
turned false true = refl
turned true false = refl
turned true true = refl

-- a transition is told exactly where the edge is in the result
pub shows : (taken up : Bool) → has_transition (cond taken (cond up OutIn InOut) NoTransition) ≡ taken
unfolding has_transition
shows false false = refl
shows false true = refl
shows true false = refl
shows true true = refl
