-- Of two coinciding neighbours in the status the lower one counts: the sweep names it first, above a new edge as below it, and class keeps types.
use Rattle.std.proofs.Common.{Option, Some, None, Ok}
use mathlib.Core.Path.{◌≡◌, refl, sym, ◌∙◌}
use mathlib.Core.Logic.{◌≢◌}
use mathlib.Core.Bool.{Bool, true, false, not, cond, ◌&&◌}
use Prim.Native.Nat.{ℕ, ◌<◌, ◌≤◌}
use lib.Dec.{eqb, ltb}
use borrow.Author.Tests.{lt-ltb, eq-eqb, ne_eqb, eqb-true}
use Rattle.events.specs.Coordinates.{Coordinates, Crossing}
use Rattle.events.specs.Event.{Event}
use Rattle.events.specs.Store.{Store, look}
use Rattle.events.proofs.Stored.{Stored}
use Rattle.events.proofs.Looks.{look-store}
use Rattle.class.specs.declared.Operation.{Operation}
use Rattle.class.specs.Class.{written, set_from_lower, fields, Neighbour}
use Rattle.class.specs.Truth.{Place, Sides, Describes, PairAbove}
use Rattle.class.proofs.Coinciding.{pair-stacked}
use Rattle.neighbours.specs.Neighbours.{Meeting, meeting, meet}
use Rattle.neighbours.specs.Pairs.{LeftEnd, FirstCounts}
use Rattle.neighbours.proofs.Likeness.{MeetingsAlike, met, broken, off}
use Rattle.neighbours.proofs.Walk.{alike-meet}
use Rattle.neighbours.proofs.Invariants.{Invariant, store_alone}
use Rattle.neighbours.proofs.Kept.{same, known, diagonal, kept-meetings}
use Rattle.neighbours.proofs.Growth.{Grows, grows-still, grows-kept}
use Rattle.neighbours.proofs.Coincidences.{two_typed, typed-counts, one-counts}
use Rattle.sweep_events.specs.Event.{is_two, neighbour_in, lower_in, classified, reclassed, with_upper, with_lower, close_up}

-- ---- class keeps types

type-fields : {P : Type 0} (op : Operation) (e : Event P) (lower : Option (Neighbour P)) → (fields op e lower).edge_type ≡ e.edge_type
unfolding fields set_from_lower written
type-fields op e None = refl
type-fields op e (Some n) = refl

module _ {P S : Type 0} (C : Coordinates P) {K : Store P S} (L : Stored K) (op : Operation) where
  types-classified : (s : S) (used e : ℕ) (lower : Option ℕ) → used ≤ K.size s → (r : ℕ) → (look K (classified C K op s used e lower) used r).edge_type ≡ (look K s used r).edge_type
  unfolding classified
  types-classified s used e lower fits r = rw (look-store L s (fields op (look K s used e) (lower_in C K s used lower)) r used e fits) (go (eqb r e) refl (ltb e used))
    where
      go : (x : Bool) → eqb r e ≡ x → (y : Bool) → (cond (x && y) (fields op (look K s used e) (lower_in C K s used lower)) (look K s used r)).edge_type ≡ (look K s used r).edge_type
      go false h y = refl
      go true h true = rw (eqb-true r e h) (type-fields op (look K s used e) (lower_in C K s used lower))
      go true h false = refl

  size-classified : (s : S) (used e : ℕ) (lower : Option ℕ) → K.size (classified C K op s used e lower) ≡ K.size s
  unfolding classified
  size-classified s used e lower = L.size-store s e _

  reclassed-met : (m : Meeting S) (a : ℕ) (lower : Option ℕ) (b : ℕ) → (reclassed C K op m a lower b).met ≡ m.met
  unfolding reclassed
  reclassed-met m a lower b = go (is_two m.met)
    where
      go : (t : Bool) → (cond t (meeting (classified C K op (classified C K op m.store m.used a lower) m.used b (Some a)) m.used m.met) m).met ≡ m.met
      go true = refl
      go false = refl

  reclassed-types : (m : Meeting S) (a : ℕ) (lower : Option ℕ) (b : ℕ) → m.used ≤ K.size m.store → (r : ℕ)
      → (look K (reclassed C K op m a lower b).store (reclassed C K op m a lower b).used r).edge_type ≡ (look K m.store m.used r).edge_type
  unfolding reclassed
  reclassed-types m a lower b fits r = go (is_two m.met)
    where
      once : S
      once = classified C K op m.store m.used a lower

      twice : Meeting S
      twice = meeting (classified C K op once m.used b (Some a)) m.used m.met

      go : (t : Bool) → (look K (cond t twice m).store (cond t twice m).used r).edge_type ≡ (look K m.store m.used r).edge_type
      go true = types-classified once m.used b (Some a) (rw (size-classified m.store m.used a lower) fits) r ∙ types-classified m.store m.used a lower fits r
      go false = refl

-- ---- after a meeting there is still room for all that are in use

module _ {P S : Type 0} (C : Coordinates P) (K : Store P S) (crossing : Crossing P) (L : Stored K) (s : S) (used : ℕ) where
  abbrev Larger : Invariant P S
  Larger = store_alone (λ n t. Grows K s used t n)

  known-met : {low : ℕ} {m m' : Meeting S} → MeetingsAlike (diagonal Larger) low m m' → Grows K s used m.store m.used
  unfolding diagonal store_alone
  known-met (met c l w) = known w.alike
  known-met (broken l w t) = known w.alike
  known-met (off o) = absurd o

  grown : (a b : ℕ) → Grows K s used (meet C K crossing s used a b).store (meet C K crossing s used a b).used
  unfolding diagonal store_alone
  grown a b =
      known-met (alike-meet (kept-meetings Larger (grows-kept C K crossing L s used) crossing (λ n t x y h i j. refl)) (record { alike = same (grows-still K s used) }) (record { alike = same tt }) (record { alike = same tt }))

-- ---- the two meetings of a new edge

module _ {P S : Type 0} (C : Coordinates P) {K : Store P S} (L : Stored K) (op : Operation) (crossing : Crossing P) (s : S) (used : ℕ) (fits : used ≤ K.size s) where
  abbrev row : ℕ → Event P
  row r = look K s used r

  -- the first of a meeting, computed anew or not
  reclassed-counts : (a b : ℕ) (lower : Option ℕ) (p : Place) → LeftEnd row used a → LeftEnd row used b → a ≢ b → PairAbove p (row a) (row b) → (reclassed C K op (meet C K crossing s used a b) a lower b).met ≡ Ok 2
      → FirstCounts p (look K (reclassed C K op (meet C K crossing s used a b) a lower b).store (reclassed C K op (meet C K crossing s used a b) a lower b).used) a b
  reclassed-counts a b lower p u v apart pair h =
      let m = meet C K crossing s used a b in
      let g = grown C K crossing L s used a b in
      let t = two_typed C L crossing s used a b fits u v apart (sym (reclassed-met C L op m a lower b) ∙ h) in
      let kept = reclassed-types C L op m a lower b (rw g.size (g.within fits)) in
      typed-counts row _ a b p pair (record { first = kept a ∙ t.first; second = kept b ∙ t.second })

  -- a new edge e and its neighbour above: the new one counts
  pub counts-below-upper : (e n : ℕ) (lower : Option ℕ) (p : Place) → LeftEnd row used e → LeftEnd row used n → e ≢ n → PairAbove p (row e) (row n) → (with_upper C K op crossing s used e lower (Some n)).met ≡ Ok 2
      → FirstCounts p (look K (with_upper C K op crossing s used e lower (Some n)).store (with_upper C K op crossing s used e lower (Some n)).used) e n
  unfolding with_upper
  counts-below-upper e n lower p u v apart pair h = reclassed-counts e n lower p u v apart pair h

  -- a new edge e and its neighbour below: the neighbour counts
  pub counts-lower : (e n : ℕ) (lowest : Option ℕ) (p : Place) → LeftEnd row used n → LeftEnd row used e → n ≢ e → PairAbove p (row n) (row e) → (with_lower C K op crossing s used e (Some n) lowest).met ≡ Ok 2
      → FirstCounts p (look K (with_lower C K op crossing s used e (Some n) lowest).store (with_lower C K op crossing s used e (Some n) lowest).used) n e
  unfolding with_lower
  counts-lower e n lowest p u v apart pair h = reclassed-counts n e lowest p u v apart pair h

  -- the two neighbours of a segment that leaves: the lower one counts
  pub counts-closing : (n m : ℕ) (p : Place) → LeftEnd row used n → LeftEnd row used m → n ≢ m → PairAbove p (row n) (row m) → (close_up C K crossing s used (Some n) (Some m)).met ≡ Ok 2
      → FirstCounts p (look K (close_up C K crossing s used (Some n) (Some m)).store (close_up C K crossing s used (Some n) (Some m)).used) n m
  unfolding close_up
  counts-closing n m p u v apart pair h = one-counts C L crossing s used n m fits u v apart p pair h

  -- What these ask of the flags holds of a new edge e of the other layer above n, once it has been computed, if n's flags describe its sides.
  pub asked-above : (e n : ℕ) (t : Sides) → e < used → n ≢ e → (row e).subject ≡ not (row n).subject → Describes (row n) t
      → PairAbove t.below (look K (classified C K op s used e (Some n)) used n) (look K (classified C K op s used e (Some n)) used e)
  unfolding classified lower_in neighbour_in
  asked-above e n t own apart layers d =
      let under = neighbour_in C K s used n in
      let new = fields op (row e) (Some under) in
      rw (look-store L s new n used e fits, ne_eqb n e apart, look-store L s new e used e fits, eq-eqb e e refl, lt-ltb e used own) (pair-stacked op (row e) under t layers d)
