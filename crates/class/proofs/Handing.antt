-- Handing on: the flags computed for an edge say of the place below it what the neighbour's flags say of a place next to the neighbour.
use Rattle.std.proofs.Common.{Some, None}
use mathlib.Core.Path.{◌≡◌, refl, sym, ap, ◌∙◌}
use mathlib.Core.Bool.{Bool, true, false, not, beq, not-not}
use Rattle.events.specs.declared.EdgeType.TheVariants.{Normal}
use Rattle.events.specs.Event.{Event}
use Rattle.class.specs.declared.Operation.{Operation}
use Rattle.class.specs.Class.{Neighbour, written, in_out_above, other_in_out_above, set_from_lower, fields}
use Rattle.class.specs.Truth.{Place, place, Sides, turn_across, own, other, Crossed, Describes}
use Rattle.class.proofs.Truth.{written-transition}

-- ---- the flags, by the two layers

pub own-handed : (a b in_out other_in_out : Bool) (p : Place) → own b p ≡ not in_out → other b p ≡ not other_in_out → own a p ≡ in_out_above (beq a b) in_out other_in_out
unfolding in_out_above
own-handed true true i o p h k = h
own-handed true false i o p h k = k
own-handed false true i o p h k = k
own-handed false false i o p h k = h

other-handed : (a b in_out other_in_out : Bool) (p : Place) → own b p ≡ not in_out → other b p ≡ not other_in_out → other a p ≡ not (other_in_out_above (beq a b) false in_out other_in_out)
unfolding other_in_out_above
other-handed true true i o p h k = k
other-handed true false i o p h k = h
other-handed false true i o p h k = h
other-handed false false i o p h k = k

other-in-layer : (b vertical in_out other_in_out : Bool) (p : Place) → other b p ≡ not other_in_out → other b p ≡ not (other_in_out_above (beq b b) vertical in_out other_in_out)
unfolding other_in_out_above
other-in-layer true v i o p k = k
other-in-layer false v i o p k = k

pub own-passed : (b in_out other_in_out : Bool) (p : Place) → other b p ≡ not other_in_out → own (not b) p ≡ in_out_above (beq (not b) b) in_out other_in_out
unfolding in_out_above
own-passed true i o p k = k
own-passed false i o p k = k

other-passed : (b in_out other_in_out : Bool) (p : Place) → own b p ≡ in_out → other (not b) p ≡ not (other_in_out_above (beq (not b) b) true in_out other_in_out)
unfolding other_in_out_above
other-passed true i o p h = h ∙ sym (not-not i)
other-passed false i o p h = h ∙ sym (not-not i)

pub own-outside : (a : Bool) → own a (place false false) ≡ false
own-outside true = refl
own-outside false = refl

other-outside : (a : Bool) → other a (place false false) ≡ false
other-outside true = refl
other-outside false = refl

-- what is known below an edge, and that the edge crosses its own layer alone, describes both its sides
described : {P : Type 0} (e : Event P) (s : Sides) → Crossed e.subject s → own e.subject s.below ≡ e.in_out → other e.subject s.below ≡ not e.other_in_out → Describes e s
described e s x p q = record { own_below = p; own_above = x.own_changes ∙ ap not p; other_below = q; other_above = x.other_stays ∙ q }

-- ---- the laws

-- With no neighbour, the place below the edge is outside both layers.
pub handed-none : {P : Type 0} (op : Operation) (e : Event P) (t : Sides) → t.below ≡ place false false → Crossed e.subject t → Describes (fields op e None) t
unfolding fields set_from_lower written
handed-none op e t meets x = described (fields op e None) t x (rw meets (own-outside e.subject)) (rw meets (other-outside e.subject))

-- Above a neighbour that is not vertical: if its flags describe the sides of its edge, and the place above it is the place below the next edge,
-- then the flags computed for the next edge describe that one's sides.
pub handed-on : {P : Type 0} (op : Operation) (e : Event P) (n : Neighbour P) (s t : Sides) → n.vertical ≡ false → Describes n.event s → t.below ≡ s.above → Crossed e.subject t → Describes (fields op e (Some n)) t
unfolding fields set_from_lower written
handed-on op e n s t sloping d meets x =
    let prev = n.event in
    described (fields op e (Some n)) t x
    (rw meets (own-handed e.subject prev.subject prev.in_out prev.other_in_out s.above d.own_above d.other_above))
    (rw (meets, sloping) (other-handed e.subject prev.subject prev.in_out prev.other_in_out s.above d.own_above d.other_above))

-- Above a neighbour of the same layer it makes no difference whether that one is vertical.
pub handed-in-layer : {P : Type 0} (op : Operation) (e : Event P) (n : Neighbour P) (s t : Sides) → e.subject ≡ n.event.subject → Describes n.event s → t.below ≡ s.above → Crossed e.subject t → Describes (fields op e (Some n)) t
unfolding fields set_from_lower written
handed-in-layer op e n s t alike d meets x =
    let prev = n.event in
    described (fields op e (Some n)) t x
    (rw meets (own-handed e.subject prev.subject prev.in_out prev.other_in_out s.above d.own_above d.other_above))
    (rw (meets, alike) (other-in-layer prev.subject n.vertical prev.in_out prev.other_in_out s.above d.other_above))

-- Above a vertical neighbour of the other layer, the source goes on as if that one were not there: from the place below it.
pub passed_over : {P : Type 0} (op : Operation) (e : Event P) (n : Neighbour P) (s t : Sides) → n.vertical ≡ true → e.subject ≡ not n.event.subject → Describes n.event s → t.below ≡ s.below → Crossed e.subject t → Describes (fields op e (Some n)) t
unfolding fields set_from_lower written
passed_over op e n s t vertical apart d meets x =
    let prev = n.event in
    described (fields op e (Some n)) t x
    (rw (meets, apart) (own-passed prev.subject prev.in_out prev.other_in_out s.below d.other_below))
    (rw (meets, apart, vertical) (other-passed prev.subject prev.in_out prev.other_in_out s.below d.own_below))

-- Both together, for a Normal edge: the transition that is written is what the operation's value does across the edge.
pub handed-transition : {P : Type 0} (op : Operation) (e : Event P) (n : Neighbour P) (s t : Sides) → e.edge_type ≡ Normal → n.vertical ≡ false → Describes n.event s → t.below ≡ s.above → Crossed e.subject t → (fields op e (Some n)).transition ≡ turn_across op t
handed-transition op e n s t normal sloping d meets x = written-transition op e (Some n) t normal (handed-on op e n s t sloping d meets x)
