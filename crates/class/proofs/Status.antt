-- Up a status: if the lower neighbour tells of the edges below it, so does what is computed from it, by the four cases of two layers and a slope.
use Rattle.std.proofs.Common.{Some, None, Option}
use mathlib.Core.Path.{◌≡◌, refl, sym, ap, ◌∙◌}
use mathlib.Core.Bool.{Bool, true, false, cond, not, ◌&&◌, ◌||◌, beq, not-not}
use mathlib.Core.List.{List, [], ◌∷◌}
use Prim.Native.Nat.{ℕ, suc}
use Rattle.events.specs.declared.EdgeType.TheVariants.{Normal}
use Rattle.events.specs.Event.{Event}
use Rattle.class.specs.declared.Operation.{Operation}
use Rattle.class.specs.Class.{Neighbour, written, in_out_above, other_in_out_above, below_above, set_from_lower, is_in_result, in_result, fields}
use Rattle.class.specs.Truth.{place, changes, own, other, Describes}
use Rattle.class.specs.Status.{next_below, Computed, is_crossed, crossings, NoneVertical, edges_of, is_odd, nearest, Tells, beyond, sides_above}
use Rattle.class.proofs.Truth.{normal-in-result}

-- ---- one edge further: a its layer, b the neighbour's, and of the neighbour vertical, in-out and other-in-out

in-out-above : (a b v i o : Bool) (k : Bool → ℕ) → i ≡ is_odd (k b) → o ≡ not (is_odd (k (not b)))
    → in_out_above (beq a b) i o ≡ is_odd (cond ((not v || beq a b) && beq a b) (suc (k a)) (k a))
unfolding in_out_above is_odd
in-out-above true true true i o k h l = ap not h
in-out-above true true false i o k h l = ap not h
in-out-above false false true i o k h l = ap not h
in-out-above false false false i o k h l = ap not h
in-out-above true false true i o k h l = ap not l ∙ not-not _
in-out-above true false false i o k h l = ap not l ∙ not-not _
in-out-above false true true i o k h l = ap not l ∙ not-not _
in-out-above false true false i o k h l = ap not l ∙ not-not _

other-in-out-above : (a b v i o : Bool) (k : Bool → ℕ) → i ≡ is_odd (k b) → o ≡ not (is_odd (k (not b)))
    → other_in_out_above (beq a b) v i o ≡ not (is_odd (cond ((not v || beq a b) && beq (not a) b) (suc (k (not a))) (k (not a))))
unfolding other_in_out_above is_odd
other-in-out-above true true true i o k h l = l
other-in-out-above true true false i o k h l = l
other-in-out-above false false true i o k h l = l
other-in-out-above false false false i o k h l = l
other-in-out-above true false true i o k h l = ap not h
other-in-out-above true false false i o k h l = h ∙ sym (not-not _)
other-in-out-above false true true i o k h l = ap not h
other-in-out-above false true false i o k h l = h ∙ sym (not-not _)

link-above : (vertical taken : Bool) (own below rest : Option ℕ) → below ≡ rest → cond vertical below (cond taken own below) ≡ cond (taken && not vertical) own rest
link-above true true own below rest h = h
link-above true false own below rest h = h
link-above false true own below rest h = refl
link-above false false own below rest h = h

-- ---- the laws

module _ {P : Type 0} (op : Operation) (e : Event P) where
  pub tells_none : Tells (fields op e None) []
  unfolding fields set_from_lower written crossings is_odd nearest
  tells_none = record { in_out = refl; other_in_out = refl; below_link = refl }

  -- From one edge to the next above it: nothing is asked but that the neighbour tells of what lies below it.
  pub tells-above : (n : Neighbour P) (below : List (Neighbour P)) → Tells n.event below → Tells (fields op e (Some n)) (n ∷ below)
  unfolding fields set_from_lower written crossings is_crossed nearest below_above
  tells-above n below t =
      let b = n.event.subject in
      record {
        in_out = in-out-above e.subject b n.vertical _ _ (λ layer. crossings layer b below) t.in_out t.other_in_out;
        other_in_out = other-in-out-above e.subject b n.vertical _ _ (λ layer. crossings layer b below) t.in_out t.other_in_out;
        below_link = link-above n.vertical (is_in_result n.event) (Some n.number) _ _ t.below_link;
      }

-- Every edge of such a list, since what lies below one is such a list too.
pub tells_all : {P : Type 0} (op : Operation) (n : Neighbour P) (below : List (Neighbour P)) → Computed op (n ∷ below) → Tells n.event below
unfolding Computed next_below
tells_all op n [] (h, rest) = rw h (tells_none op n.event)
tells_all op n (m ∷ below) (h, rest) = rw h (tells-above op n.event m below (tells_all op m below rest))

pub each-crossed : {P : Type 0} (layer next : Bool) (below : List (Neighbour P)) → NoneVertical below → crossings layer next below ≡ edges_of layer below
unfolding crossings is_crossed edges_of NoneVertical
each-crossed layer next [] h = refl
each-crossed layer next (n ∷ below) (sloping, h) = rw (sloping, each-crossed layer n.event.subject below h)

-- ---- in the words of the truth table

-- an edge of layer a, where a layer lies below it exactly if k tells so
sides-told : (a i o : Bool) (k : Bool → Bool) → i ≡ k a → o ≡ not (k (not a))
    → (own a (place (k true) (k false)) ≡ i) × (own a (beyond a (place (k true) (k false))) ≡ not i) × (other a (place (k true) (k false)) ≡ not o) × (other a (beyond a (place (k true) (k false))) ≡ not o)
unfolding beyond
sides-told true i o k h l = let far = sym (not-not (k false)) ∙ ap not (sym l) in (sym h, ap not (sym h), far, far)
sides-told false i o k h l = let far = sym (not-not (k true)) ∙ ap not (sym l) in (sym h, ap not (sym h), far, far)

-- the flags describe the places that counting tells
pub tells-sides : {P : Type 0} (e : Event P) (below : List (Neighbour P)) → Tells e below → Describes e (sides_above e.subject below)
tells-sides e below t =
    let (own_below, own_above, other_below, other_above) = sides-told e.subject e.in_out e.other_in_out (λ layer. is_odd (crossings layer e.subject below)) t.in_out t.other_in_out in
    record { own_below = own_below; own_above = own_above; other_below = other_below; other_above = other_above }

-- so that a Normal edge is in the result exactly if the operation's value changes between these places
pub tells-in-result : {P : Type 0} (op : Operation) (e : Event P) (below : List (Neighbour P)) → e.edge_type ≡ Normal → Tells e below → in_result op e ≡ changes op (sides_above e.subject below)
tells-in-result op e below normal t = normal-in-result op e (sides_above e.subject below) normal (tells-sides e below t)
