-- Two coinciding edges of two layers: which of them counts, and that its type is what the truth table says of the pair. The cut that may follow keeps types.
use Rattle.std.proofs.Common.{Ok}
use mathlib.Core.Path.{◌≡◌, refl, sym, ap, ◌∙◌}
use mathlib.Core.Logic.{◌≢◌, ◌⊎◌, inl, inr}
use mathlib.Core.Bool.{Bool, true, false, not, cond, beq, true≢false, false≢true}
use Prim.Native.Nat.{ℕ, ◌<◌, ◌≤◌}
use native.Mathlib.Omega.{arith}
use borrow.Author.Tests.{lt-ltb, eq-eqb, ne_eqb, eqb-true, eqb-false}
use lib.Dec.{eqb}
use Rattle.events.specs.declared.EdgeType.{EdgeType}
use Rattle.events.specs.declared.EdgeType.TheVariants.{Normal, NonContributing, SameTransition, DifferentTransition}
use Rattle.events.specs.Coordinates.{Coordinates, Cross, Crossing}
use Rattle.events.specs.Event.{Event}
use Rattle.events.specs.Store.{Store, look}
use Rattle.events.proofs.Stored.{Stored}
use Rattle.events.proofs.Looks.{look-store}
use Rattle.events.proofs.Faces.{Face, face-sym, face-store}
use Rattle.class.specs.declared.Operation.{Operation}
use Rattle.class.specs.Class.{in_result}
use Rattle.class.specs.Truth.{Place, changes, across_both, PairAbove}
use Rattle.class.proofs.Truth.{same-in-result, different-in-result, non-contributing}
use Rattle.class.proofs.Coinciding.{together, together-back, oppositely, oppositely-back}
use Rattle.division.specs.Division.{linked}
use Rattle.division.specs.Records.{Parted}
use Rattle.neighbours.specs.Step.{cut_unless}
use Rattle.neighbours.specs.Neighbours.{Meeting, ended, typed, type_by, right_of, coincided, left_shared, meet}
use Rattle.neighbours.specs.Pairs.{LeftEnd, FirstTyped, TypeTells, FirstCounts}
use Rattle.neighbours.proofs.Invariants.{face-trans, typed-face}
use Rattle.neighbours.proofs.Codes.{went, Came, at-point, one_left, another, came}
use Rattle.neighbours.proofs.Crossings.{halved}

-- ---- the type, by the truth table

is_same : EdgeType → Bool
is_same SameTransition = true
is_same DifferentTransition = false
is_same Normal = false
is_same NonContributing = false

same-not-different : SameTransition ≡ DifferentTransition → ⊥
unfolding is_same
same-not-different h = true≢false (ap is_same h)

type-cases : (i j : Bool) → ((cond (beq i j) SameTransition DifferentTransition ≡ SameTransition) × (j ≡ i)) ⊎ ((cond (beq i j) SameTransition DifferentTransition ≡ DifferentTransition) × (j ≡ not i))
type-cases true true = inl (refl, refl)
type-cases true false = inr (refl, refl)
type-cases false true = inr (refl, refl)
type-cases false false = inl (refl, refl)

not-both : (i : Bool) → i ≡ not i → ⊥
not-both true h = true≢false h
not-both false h = false≢true h

module _ {P : Type 0} (p : Place) (e f : Event P) (h : PairAbove p e f) where
  -- The two flags say exactly how the layers change across the pair.
  pub type-tells : TypeTells p (type_by e f)
  unfolding type_by
  type-tells = go (type-cases e.in_out f.in_out)
    where
      go : {t : EdgeType} → ((t ≡ SameTransition) × (f.in_out ≡ e.in_out)) ⊎ ((t ≡ DifferentTransition) × (f.in_out ≡ not e.in_out)) → TypeTells p t
      go (inl (is, flags)) =
          record {
            same = λ x. together p e f h flags;
            same_back = λ x. is;
            different = λ x. absurd (same-not-different (sym is ∙ x));
            different_back = λ x. absurd (not-both e.in_out (sym flags ∙ oppositely-back p e f h x));
          }
      go (inr (is, flags)) =
          record {
            same = λ x. absurd (same-not-different (sym x ∙ is));
            same_back = λ x. absurd (not-both e.in_out (sym (together-back p e f h x) ∙ flags));
            different = λ x. oppositely p e f h flags;
            different_back = λ x. is;
          }

  -- A record of that type is in the result exactly if the operation's value changes across the pair.
  pub type-counts : (op : Operation) (x : Event P) → x.edge_type ≡ type_by e f → in_result op x ≡ changes op (across_both p)
  unfolding type_by
  type-counts op x is = go (type-cases e.in_out f.in_out)
    where
      go : ((type_by e f ≡ SameTransition) × (f.in_out ≡ e.in_out)) ⊎ ((type_by e f ≡ DifferentTransition) × (f.in_out ≡ not e.in_out)) → in_result op x ≡ changes op (across_both p)
      go (inl (t, flags)) = same-in-result op x (across_both p) (is ∙ t) (together p e f h flags)
      go (inr (t, flags)) = different-in-result op x (across_both p) (is ∙ t) (oppositely p e f h flags)

-- what the types say in the words of the truth table
pub typed-counts : {P : Type 0} (row row' : ℕ → Event P) (a b : ℕ) (p : Place) → PairAbove p (row a) (row b) → FirstTyped row row' a b → FirstCounts p row' a b
typed-counts row row' a b p pair t =
    record {
      first_tells = rw t.first (type-tells p _ _ pair);
      first_counts = λ op. type-counts p _ _ pair op (row' a) t.first;
      second_silent = λ op. non-contributing op (row' b) t.second;
    }

-- ---- the cut that may follow

-- a division changes no type of a record in use
types-kept : {P : Type 0} (row row' : ℕ → Event P) (n i : ℕ) (c : P) (keep : Bool) → Parted row row' n i c keep → (r : ℕ) → r < n → (row' r).edge_type ≡ (row r).edge_type
unfolding linked
types-kept row row' n i c keep h r l = go (eqb r i) refl (eqb r (row i).partner) refl
  where
    go : (x : Bool) → eqb r i ≡ x → (y : Bool) → eqb r (row i).partner ≡ y → (row' r).edge_type ≡ (row r).edge_type
    go true x y z = rw (eqb-true r i x) (ap (λ e. e.edge_type) h.own)
    go false x true z = rw (eqb-true r (row i).partner z) (ap (λ e. e.edge_type) h.other)
    go false x false z = ap (λ e. e.edge_type) (h.rest r (λ e. omega arith) (λ e. omega arith) (eqb-false r i x) (eqb-false r (row i).partner z))

module _ {P S : Type 0} (C : Coordinates P) {K : Store P S} (L : Stored K) (s : S) (used k : ℕ) (p : P) (w : LeftEnd (look K s used) used k) where
  types-kept-unless : (b : Bool) → (cut_unless C K b s used k p).stop ≡ Ok tt → (r : ℕ) → r < used
      → (look K (cut_unless C K b s used k p).store (cut_unless C K b s used k p).used r).edge_type ≡ (look K s used r).edge_type
  unfolding cut_unless
  types-kept-unless true h r l = refl
  types-kept-unless false h r l = let g = halved C L s used k p w h in types-kept _ _ used k _ g.keep g.parts r l

-- ---- the records once two types have changed

left-kept : {P : Type 0} (row row' : ℕ → Event P) (n r : ℕ) → ((j : ℕ) → Face (row' j) (row j)) → LeftEnd row n r → LeftEnd row' n r
left-kept row row' n r faces w =
    let mate : (row' r).partner ≡ (row r).partner = (faces r).partner in
    record {
      paired = record { own = w.paired.own; other = rw mate w.paired.other; back = rw mate ((faces (row r).partner).partner ∙ w.paired.back) };
      left = (faces r).left ∙ w.left;
      right = rw mate ((faces (row r).partner).left ∙ w.right);
    }

-- x and y are stored at two numbers, the second's first
module _ {P S : Type 0} {K : Store P S} (L : Stored K) (s : S) (used a b : ℕ) (x y : Event P) (fits : used ≤ K.size s) where
  abbrev both : S
  both = K.store (K.store s b y) a x

  still-fits : used ≤ K.size (K.store s b y)
  still-fits = rw (L.size-store s b y) fits

  read_first : a < used → look K both used a ≡ x
  read_first own = rw (look-store L (K.store s b y) x a used a still-fits, eq-eqb a a refl, lt-ltb a used own)

  read-second : b < used → a ≢ b → look K both used b ≡ y
  read-second own apart = rw (look-store L (K.store s b y) x b used a still-fits, ne_eqb b a (λ e. apart (sym e)), look-store L s y b used b fits, eq-eqb b b refl, lt-ltb b used own)

  both-faces : Face x (look K s used a) → Face y (look K s used b) → (j : ℕ) → Face (look K both used j) (look K s used j)
  both-faces f g j =
      let one = face-store L s used b y fits g in
      face-trans (face-store L (K.store s b y) used a x still-fits (face-trans f (face-sym (one a))) j) (one j)

module _ {P S : Type 0} (C : Coordinates P) {K : Store P S} (L : Stored K) (s : S) (used a b : ℕ) (fits : used ≤ K.size s) where
  abbrev row : ℕ → Event P
  row r = look K s used r

  abbrev after : ℕ → Event P
  after r = look K (coincided C K s used a b) used r

  first-typed : a < used → (after a).edge_type ≡ type_by (row a) (row b)
  unfolding coincided typed
  first-typed own = ap (λ (e : Event P). e.edge_type) (read_first L s used a b _ _ fits own)

  second-typed : b < used → a ≢ b → (after b).edge_type ≡ NonContributing
  unfolding coincided typed
  second-typed own apart = ap (λ (e : Event P). e.edge_type) (read-second L s used a b _ _ fits own apart)

  faces : (j : ℕ) → Face (after j) (row j)
  unfolding coincided
  faces = both-faces L s used a b _ _ fits (typed-face _ _) (typed-face _ _)

-- ---- the meeting

module _ {P S : Type 0} (C : Coordinates P) {K : Store P S} (L : Stored K) (crossing : Crossing P) (s : S) (used a b : ℕ) (fits : used ≤ K.size s) (u : LeftEnd (look K s used) used a) (v : LeftEnd (look K s used) used b) (apart : a ≢ b) where
  shared-typed : (oneRight : Bool) (h k : ℕ) → (k ≡ a) ⊎ (k ≡ b) → (left_shared C K s used a b oneRight h k).stop ≡ Ok tt
      → FirstTyped (look K s used) (look K (left_shared C K s used a b oneRight h k).store (left_shared C K s used a b oneRight h k).used) a b
  unfolding left_shared
  shared-typed oneRight h k which on =
      let kept = types-kept-unless C L (coincided C K s used a b) used k (right_of C K s used h).point (left_end which) oneRight on in
      record {
        first = kept a u.paired.own ∙ first-typed C L s used a b fits u.paired.own;
        second = kept b v.paired.own ∙ second-typed C L s used a b fits v.paired.own apart;
      }
    where
      left_end : (k ≡ a) ⊎ (k ≡ b) → LeftEnd (look K (coincided C K s used a b) used) used k
      left_end (inl e) = rw e (left-kept _ _ used a (faces C L s used a b fits) u)
      left_end (inr e) = rw e (left-kept _ _ used b (faces C L s used a b fits) v)

  -- After code 2 the first is typed by the flags of both, and the second does not count ..
  pub two_typed : (meet C K crossing s used a b).met ≡ Ok 2 → FirstTyped (look K s used) (look K (meet C K crossing s used a b).store (meet C K crossing s used a b).used) a b
  unfolding meet ended
  two_typed h = go _ (came C K s used a b _ _ _) h
    where
      go : {found : Cross P} {oneRight : Bool} (m : Meeting S) → Came C K s used a b found oneRight m → m.met ≡ Ok 2 → FirstTyped (look K s used) (look K m.store m.used) a b
      go m (at-point p is) h = absurd (let z = (went _ 1 2 h).1 in omega arith)
      go m (one_left i k which) h = shared-typed _ i k which (went _ 2 2 h).0
      go m (another x c not-1 not-2) h = absurd (not-2 (went _ c 2 h).1)

  -- .. so that the truth table is met by the first alone.
  pub one-counts : (p : Place) → PairAbove p (look K s used a) (look K s used b) → (meet C K crossing s used a b).met ≡ Ok 2 → FirstCounts p (look K (meet C K crossing s used a b).store (meet C K crossing s used a b).used) a b
  one-counts p pair h = typed-counts _ _ a b p pair (two_typed h)
