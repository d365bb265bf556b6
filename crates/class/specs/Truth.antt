-- The truth table of the four set operations, and the words in which an edge is measured by it. Nothing here is taken from the code but the
-- names of the operations and what a record holds.
use Rattle.std.specs.Prelude.{◌≡◌, Bool, true, false, not}
use Rattle.std.specs.Bool.{beq}
use Rattle.events.specs.declared.ResultTransition.{ResultTransition}
use Rattle.events.specs.declared.ResultTransition.TheVariants.{None as NoTransition, InOut, OutIn}
use Rattle.events.specs.Event.{Event}
use Rattle.class.specs.declared.Operation.{Operation}
use Rattle.class.specs.declared.Operation.TheVariants.{Intersection, Difference, Union, Xor}

-- ---- the table

-- what an operation says of a place: is it inside the subject, is it inside the clip
unfoldable pub holds : Operation → Bool → Bool → Bool
holds Intersection false false = false
holds Intersection false true = false
holds Intersection true false = false
holds Intersection true true = true
holds Difference false false = false
holds Difference false true = false
holds Difference true false = true
holds Difference true true = false
holds Union false false = false
holds Union false true = true
holds Union true false = true
holds Union true true = true
holds Xor false false = false
holds Xor false true = true
holds Xor true false = true
holds Xor true true = false

-- ---- the two sides of an edge

-- a place: inside the subject, inside the clip
pub record Place : Type 0 where
  pub subject : Bool
  pub clip : Bool

abbrev pub place : Bool → Bool → Place
place subject clip = record { subject = subject; clip = clip }

-- the places next to an edge, or to two that coincide
pub record Sides : Type 0 where
  pub below : Place
  pub above : Place

-- the operation's value at a place
abbrev pub value : Operation → Place → Bool
value op p = holds op p.subject p.clip

-- the operation's value is one below and the other above
abbrev pub changes : Operation → Sides → Bool
changes op s = not (beq (value op s.below) (value op s.above))

-- what happens on the way up: the value below, the value above
unfoldable pub turn : Bool → Bool → ResultTransition
turn false false = NoTransition
turn false true = OutIn
turn true false = InOut
turn true true = NoTransition

abbrev pub turn_across : Operation → Sides → ResultTransition
turn_across op s = turn (value op s.below) (value op s.above)

-- ---- an edge and its layer

-- inside the layer of an edge of the subject (true) or of the clip (false)
abbrev pub own : Bool → Place → Bool
own true p = p.subject
own false p = p.clip

-- inside the layer that such an edge is not of
abbrev pub other : Bool → Place → Bool
other true p = p.clip
other false p = p.subject

-- across an edge its own layer changes, and the other does not
pub record Crossed (subject : Bool) (s : Sides) : Type 0 where
  pub own_changes : own subject s.above ≡ not (own subject s.below)
  pub other_stays : other subject s.above ≡ other subject s.below

-- The flags of a record describe the sides of its edge: its own layer lies below exactly if in-out, and above exactly if not in-out; the other
-- layer lies on both sides exactly if not other-in-out.
pub record Describes {P : Type 0} (e : Event P) (s : Sides) : Type 0 where
  pub own_below : own e.subject s.below ≡ e.in_out
  pub own_above : own e.subject s.above ≡ not e.in_out
  pub other_below : other e.subject s.below ≡ not e.other_in_out
  pub other_above : other e.subject s.above ≡ not e.other_in_out

-- ---- two coinciding edges, one of each layer

-- from a place below the pair to the one above it, where both layers have changed
abbrev pub across_both : Place → Sides
across_both p = record { below = p; above = place (not p.subject) (not p.clip) }

-- p is the place below the pair: each one's in-out says whether its own layer lies there
pub record PairAbove {P : Type 0} (p : Place) (e f : Event P) : Type 0 where
  pub two_layers : f.subject ≡ not e.subject
  pub first : own e.subject p ≡ e.in_out
  pub second : own f.subject p ≡ f.in_out

-- both layers change across the pair; both are entered, or both left
pub record Together (s : Sides) : Type 0 where
  pub alike : s.below.clip ≡ s.below.subject
  pub subject_changes : s.above.subject ≡ not s.below.subject
  pub clip_changes : s.above.clip ≡ not s.below.clip

-- both layers change across the pair; one is entered and the other left
pub record Oppositely (s : Sides) : Type 0 where
  pub unlike : s.below.clip ≡ not s.below.subject
  pub subject_changes : s.above.subject ≡ not s.below.subject
  pub clip_changes : s.above.clip ≡ not s.below.clip
