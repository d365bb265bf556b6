-- A coinciding pair, one edge of each layer: the layers change together across it exactly where the two in-out flags are equal. The flags say so in both ways
-- in which the sweep has computed them when the two meet. The transition of the pair is not always the table's.
use Rattle.std.proofs.Common.{Some, None}
use mathlib.Core.Path.{◌≡◌, refl, sym, ap, ◌∙◌}
use mathlib.Core.Bool.{Bool, true, false, not, beq, not-not}
use Rattle.events.specs.declared.EdgeType.{EdgeType}
use Rattle.events.specs.declared.EdgeType.TheVariants.{Normal, SameTransition, DifferentTransition}
use Rattle.events.specs.declared.ResultTransition.TheVariants.{None as NoTransition, InOut, OutIn}
use Rattle.events.specs.Event.{Event}
use Rattle.class.specs.declared.Operation.{Operation}
use Rattle.class.specs.declared.Operation.TheVariants.{Intersection, Difference}
use Rattle.class.specs.Class.{Neighbour, written, in_out_above, other_in_out_above, set_from_lower, same_in_result, different_in_result, in_result_as, holds_above, direction, transition_in, fields}
use Rattle.class.specs.Truth.{holds, Place, place, Sides, turn, turn_across, own, other, Describes, across_both, PairAbove, Together, Oppositely}
use Rattle.class.proofs.Handing.{own-handed, own-passed, own-outside}

-- ---- the place below the pair, told by the two in-out flags

module _ (p : Place) where
  swapped : (a : Bool) → own (not a) p ≡ other a p
  swapped true = refl
  swapped false = refl

  alike : (a i j : Bool) → own a p ≡ i → other a p ≡ j → j ≡ i → p.clip ≡ p.subject
  alike true i j x y e = y ∙ e ∙ sym x
  alike false i j x y e = x ∙ sym e ∙ sym y

  alike-back : (a i j : Bool) → own a p ≡ i → other a p ≡ j → p.clip ≡ p.subject → j ≡ i
  alike-back true i j x y e = sym y ∙ e ∙ x
  alike-back false i j x y e = sym y ∙ sym e ∙ x

  unlike : (a i j : Bool) → own a p ≡ i → other a p ≡ j → j ≡ not i → p.clip ≡ not p.subject
  unlike true i j x y e = y ∙ e ∙ ap not (sym x)
  unlike false i j x y e = x ∙ sym (not-not i) ∙ ap not (sym e ∙ sym y)

  unlike-back : (a i j : Bool) → own a p ≡ i → other a p ≡ j → p.clip ≡ not p.subject → j ≡ not i
  unlike-back true i j x y e = sym y ∙ e ∙ ap not x
  unlike-back false i j x y e = sym y ∙ sym (not-not p.subject) ∙ ap not (sym e ∙ x)

-- ---- the layers across the pair

module _ {P : Type 0} (p : Place) (e f : Event P) (h : PairAbove p e f) where
  theirs : other e.subject p ≡ f.in_out
  theirs = sym (swapped p e.subject) ∙ ap (λ a. own a p) (sym h.two_layers) ∙ h.second

  -- Equal in-out flags: both layers are entered, or both left ..
  pub together : f.in_out ≡ e.in_out → Together (across_both p)
  together same = record { alike = alike p e.subject _ _ h.first theirs same; subject_changes = refl; clip_changes = refl }

  pub together-back : Together (across_both p) → f.in_out ≡ e.in_out
  together-back t = alike-back p e.subject _ _ h.first theirs t.alike

  -- .. and unequal ones: one is entered and the other left.
  pub oppositely : f.in_out ≡ not e.in_out → Oppositely (across_both p)
  oppositely different = record { unlike = unlike p e.subject _ _ h.first theirs different; subject_changes = refl; clip_changes = refl }

  pub oppositely-back : Oppositely (across_both p) → f.in_out ≡ not e.in_out
  oppositely-back t = unlike-back p e.subject _ _ h.first theirs t.unlike

-- ---- the two ways in which the flags were computed, vertical neighbours among them, since in-out does not look at slopes

-- The upper edge above the lower: as the sweep asks of a new edge and the one below it, and of both once they have been computed anew.
pub pair-stacked : {P : Type 0} (op : Operation) (f : Event P) (n : Neighbour P) (s : Sides) → f.subject ≡ not n.event.subject → Describes n.event s → PairAbove s.below n.event (fields op f (Some n))
unfolding fields set_from_lower written
pair-stacked op f n s apart d =
    let e = n.event in
    record { two_layers = apart; first = d.own_below; second = rw apart (own-passed e.subject e.in_out e.other_in_out s.below d.other_below) }

-- Both above the same edge: as the sweep asks of a new edge and the one above it, which was computed before the new one came between.
pub pair-level : {P : Type 0} (op : Operation) (e f : Event P) (n : Neighbour P) (s : Sides) → f.subject ≡ not e.subject → Describes n.event s → PairAbove s.above (fields op e (Some n)) (fields op f (Some n))
unfolding fields set_from_lower written
pair-level op e f n s apart d =
    let prev = n.event in
    let handed : (a : Bool) → own a s.above ≡ in_out_above (beq a prev.subject) prev.in_out prev.other_in_out = λ a. own-handed a prev.subject prev.in_out prev.other_in_out s.above d.own_above d.other_above in
    record { two_layers = apart; first = handed e.subject; second = handed f.subject }

-- .. or above none.
pub pair-lowest : {P : Type 0} (op : Operation) (e f : Event P) → f.subject ≡ not e.subject → PairAbove (place false false) (fields op e None) (fields op f None)
unfolding fields set_from_lower written
pair-lowest op e f apart = record { two_layers = apart; first = own-outside e.subject; second = own-outside f.subject }

-- ---- where the transition differs from the table

-- a left record as it is loaded, of this layer and type
abbrev fresh : {P : Type 0} → P → Bool → EdgeType → Event P
fresh at subject type =
    record {
      point = at;
      left = true;
      subject = subject;
      ring = 0;
      partner = 1;
      below = None;
      edge_type = type;
      transition = NoTransition;
      in_out = false;
      other_in_out = false;
      contour = None;
    }

-- Two equal squares, intersection: their lower edges coincide, the intersection begins above them, and the lower of the two records says InOut.
pub same-example : {P : Type 0} (at : P) → ((fields Intersection (fresh at true SameTransition) None).transition ≡ InOut) × (turn_across Intersection (record { below = place false false; above = place true true }) ≡ OutIn)
unfolding fields set_from_lower written transition_in direction in_result_as same_in_result holds_above holds turn
same-example at = (refl, refl)

-- The lower edge of a square of the clip.
abbrev below-example : {P : Type 0} → P → Neighbour P
below-example at = record { number = 2; event = fields Difference (fresh at false Normal) None; vertical = false }

-- A square of the subject standing on one of the clip, difference: the difference begins above the edge that they share, and the record says InOut.
pub different-example : {P : Type 0} (at : P) → ((fields Difference (fresh at true DifferentTransition) (Some (below-example at))).transition ≡ InOut) × (turn_across Difference (record { below = place false true; above = place true false }) ≡ OutIn)
unfolding fields set_from_lower written in_out_above other_in_out_above transition_in direction in_result_as different_in_result holds_above holds turn
different-example at = (refl, refl)
