-- Edge class agrees with the truth table: what the flags say of a record's two sides turns each statement into a row of the table.
use Rattle.std.proofs.Common.{Option, Some, None}
use mathlib.Core.Path.{◌≡◌, refl, ◌∙◌}
use mathlib.Core.Bool.{Bool, true, false, not, cond}
use Rattle.events.specs.declared.EdgeType.TheVariants.{Normal, NonContributing, SameTransition, DifferentTransition}
use Rattle.events.specs.declared.ResultTransition.TheVariants.{InOut, OutIn}
use Rattle.events.specs.Event.{Event}
use Rattle.class.specs.declared.Operation.{Operation}
use Rattle.class.specs.Class.{written, set_from_lower, is_in_result, normal_in_result, in_result_as, in_result, holds_above, direction, transition_in, fields, Neighbour}
use Rattle.class.specs.Truth.{Place, Sides, value, changes, turn_across, own, other, Describes, Together, Oppositely}
use Rattle.class.proofs.Rows.{told, normal-rows, same_rows, different-rows, turned, shows}

-- ---- a Normal edge

-- the table of the layer
changed : (op : Operation) (subject in_out other_in_out : Bool) (s : Sides) → own subject s.below ≡ in_out → own subject s.above ≡ not in_out → other subject s.below ≡ not other_in_out → other subject s.above ≡ not other_in_out → normal_in_result op subject other_in_out ≡ changes op s
changed op true in_out other_in_out s p q r t = rw (p, q, r, t) (normal-rows op in_out other_in_out).0
changed op false in_out other_in_out s p q r t = rw (p, q, r, t) (normal-rows op in_out other_in_out).1

-- the set operation told from an edge of either layer is the operation's value
held : (op : Operation) (subject : Bool) (p : Place) → holds_above op subject (own subject p) (other subject p) ≡ value op p
held op true p = (told op p.subject p.clip).0
held op false p = (told op p.clip p.subject).1

-- It is in the result exactly where the operation's value changes across it.
pub normal-in-result : {P : Type 0} (op : Operation) (e : Event P) (s : Sides) → e.edge_type ≡ Normal → Describes e s → in_result op e ≡ changes op s
unfolding in_result_as
normal-in-result op e s normal d = rw normal (changed op e.subject e.in_out e.other_in_out s d.own_below d.own_above d.other_below d.other_above)

-- The direction of an edge of any type: OutIn exactly where the operation holds at the place that its own flags put above it.
pub direction-above : {P : Type 0} (op : Operation) (e : Event P) (s : Sides) → Describes e s → direction op e ≡ cond (value op s.above) OutIn InOut
unfolding direction
direction-above op e s d = rw (← d.own_above, ← d.other_above, held op e.subject s.above)

-- It is OutIn exactly where the value becomes true above it, InOut exactly where it becomes false, and None elsewhere.
pub normal-transition : {P : Type 0} (op : Operation) (e : Event P) (s : Sides) → e.edge_type ≡ Normal → Describes e s → transition_in op e ≡ turn_across op s
unfolding transition_in
normal-transition op e s normal d = rw (normal-in-result op e s normal d, direction-above op e s d) (turned (value op s.below) (value op s.above))

-- ---- two coinciding edges

-- In the result exactly where the operation's value changes across the pair, the two layers changing together ..
pub same-in-result : {P : Type 0} (op : Operation) (e : Event P) (s : Sides) → e.edge_type ≡ SameTransition → Together s → in_result op e ≡ changes op s
unfolding in_result_as
same-in-result op e s same t = rw (same, t.subject_changes, t.clip_changes, t.alike) (same_rows op s.below.subject)

-- .. or oppositely.
pub different-in-result : {P : Type 0} (op : Operation) (e : Event P) (s : Sides) → e.edge_type ≡ DifferentTransition → Oppositely s → in_result op e ≡ changes op s
unfolding in_result_as
different-in-result op e s different t = rw (different, t.subject_changes, t.clip_changes, t.unlike) (different-rows op s.below.subject)

-- The other record of a pair never is.
pub non-contributing : {P : Type 0} (op : Operation) (e : Event P) → e.edge_type ≡ NonContributing → in_result op e ≡ false
unfolding in_result_as
non-contributing op e never = rw never

-- ---- what is written into the record

type-kept : {P : Type 0} (e : Event P) (lower : Option (Neighbour P)) → (set_from_lower e lower).edge_type ≡ e.edge_type
unfolding set_from_lower written
type-kept e None = refl
type-kept e (Some n) = refl

-- The record says that it is in the result exactly if it is.
pub written-in-result : {P : Type 0} (op : Operation) (e : Event P) (lower : Option (Neighbour P)) → is_in_result (fields op e lower) ≡ in_result op (fields op e lower)
unfolding fields written transition_in direction
written-in-result op e lower = shows (in_result op (set_from_lower e lower)) (holds_above op (set_from_lower e lower).subject (not (set_from_lower e lower).in_out) (not (set_from_lower e lower).other_in_out))

-- The transition that is written for a Normal edge is the table's.
pub written-transition : {P : Type 0} (op : Operation) (e : Event P) (lower : Option (Neighbour P)) (s : Sides) → e.edge_type ≡ Normal → Describes (fields op e lower) s → (fields op e lower).transition ≡ turn_across op s
unfolding fields written transition_in direction
written-transition op e lower s normal d = normal-transition op (fields op e lower) s (type-kept e lower ∙ normal) d
