-- Neighbours (`possible_intersection.rs`), over any kind of coordinate, any store and any crossing. Two left records a and b, whose partners are their
-- right ends. The code is the source's: 0 nothing done, 1 cut where they cross, 2 one left end, 3 overlap otherwise.
use Rattle.std.specs.Prelude.{Bool, cond, ◌||◌, ℕ, ◌+◌, eqb, Err, Ok, Result}
use Rattle.refusals.specs.declared.Reason.TheVariants as Reason
use Rattle.refusals.specs.declared.Refusal.{Refusal}
use Rattle.refusals.specs.Refusals.{Verdict}
use Rattle.std.specs.Bool.{beq}
use Rattle.events.specs.declared.EdgeType.{EdgeType}
use Rattle.events.specs.declared.EdgeType.TheVariants.{NonContributing, SameTransition, DifferentTransition}
use Rattle.events.specs.Coordinates.{Coordinates, same, Cross, none, lost, point, overlap, Crossing}
use Rattle.events.specs.Event.{Event}
use Rattle.events.specs.Store.{Store, look}
use Rattle.order.specs.Order.{before}
use Rattle.order.specs.Keys.{key_used}
use Rattle.neighbours.specs.Step.{Step, step, and_then, cut, cut_unless, twice}

-- the outcome: store, places in use, and the code or the refusal
pub record Meeting (S : Type 0) : Type 0 where
  pub store : S
  pub used : ℕ
  pub met : Result ℕ Refusal

abbrev pub meeting : {S : Type 0} → S → ℕ → Result ℕ Refusal → Meeting S
meeting s used x = record { store = s; used = used; met = x }

unfoldable pub met_by : Verdict → ℕ → Result ℕ Refusal
met_by (Ok _) code = Ok code
met_by (Err r) code = Err r

unfoldable pub ended : {S : Type 0} → Step S → ℕ → Meeting S
ended x code = meeting x.store x.used (met_by x.stop code)

-- a record with another edge type
unfoldable pub typed : {P : Type 0} → Event P → EdgeType → Event P
typed e t =
    record {
      point = e.point;
      left = e.left;
      subject = e.subject;
      ring = e.ring;
      partner = e.partner;
      below = e.below;
      edge_type = t;
      transition = e.transition;
      in_out = e.in_out;
      other_in_out = e.other_in_out;
      contour = e.contour;
    }

-- how the layers change across two coinciding edges: together where both flags say the same
unfoldable pub type_by : {P : Type 0} → Event P → Event P → EdgeType
type_by first second = cond (beq first.in_out second.in_out) SameTransition DifferentTransition

module _ {P S : Type 0} (C : Coordinates P) (K : Store P S) where
  -- the right end of the segment of record r, as a number and as a record
  abbrev pub mate_of : S → ℕ → ℕ → ℕ
  mate_of s used r = (look K s used r).partner

  abbrev pub right_of : S → ℕ → ℕ → Event P
  right_of s used r = look K s used (mate_of s used r)

  -- p is an end of the segment of record r
  unfoldable pub at_end : S → ℕ → ℕ → P → Bool
  at_end s used r p = same C (look K s used r).point p || same C (right_of s used r).point p

  -- ---- a point: each segment is cut there, unless it ends there

  unfoldable pub crossed : S → ℕ → ℕ → ℕ → P → Step S
  crossed s used a b p = and_then (cut_unless C K (at_end s used a p) s used a p) (λ t n. cut_unless C K (at_end s used b p) t n b p)

  -- ---- an overlap of two layers; i and j: the segment that begins first and the other, h and k: the one that ends first and the other

  -- one left end: the second edge does not count, the first tells whether the layers change together or oppositely
  unfoldable pub coincided : S → ℕ → ℕ → ℕ → S
  coincided s used a b =
      let first = look K s used a in
      let second = look K s used b in
      K.store (K.store s b (typed second NonContributing)) a
      (typed first (type_by first second))

  -- .. and the longer one is cut where the other ends
  unfoldable pub left_shared : S → ℕ → ℕ → ℕ → Bool → ℕ → ℕ → Step S
  left_shared s used a b oneRight h k = cut_unless C K oneRight (coincided s used a b) used k (right_of s used h).point

  -- The first is cut where the other begins, and then what lies over the other's end: the other itself, or, where the first includes it, the
  -- first one's new left end.
  unfoldable pub laid : S → ℕ → Bool → ℕ → ℕ → ℕ → ℕ → Step S
  laid s used oneRight i j h k =
      cond oneRight (cut C K s used i (look K s used j).point)
      (twice C K s used i (look K s used j).point (cond (eqb i k) (used + 1) j) (right_of s used h).point)

  -- by event order, of the left records and of their partners
  abbrev pub begins_first : S → ℕ → ℕ → ℕ → Bool
  begins_first s used a b = before C (key_used K s used a) (key_used K s used b)

  abbrev pub ends_first : S → ℕ → ℕ → ℕ → Bool
  ends_first s used a b = begins_first s used (mate_of s used a) (mate_of s used b)

  unfoldable pub overlapped : S → ℕ → ℕ → ℕ → Bool → Bool → Meeting S
  overlapped s used a b oneLeft oneRight =
      let first = begins_first s used a b in
      let ends = ends_first s used a b in
      let h = cond ends a b in
      let k = cond ends b a in
      cond oneLeft (ended (left_shared s used a b oneRight h k) 2)
      (ended (laid s used oneRight (cond first a b) (cond first b a) h k) 3)

  abbrev pub one_layer : S → ℕ → ℕ → ℕ → Bool
  one_layer s used a b = beq (look K s used a).subject (look K s used b).subject

  -- ---- all of it

  unfoldable pub meet_by : Cross P → S → ℕ → ℕ → ℕ → Bool → Bool → Meeting S
  meet_by none s used a b oneLeft oneRight = ended (step s used (Ok tt)) 0
  meet_by lost s used a b oneLeft oneRight = ended (step s used (Err (record { reason = Reason.Cut; place = a }))) 0
  meet_by (point p) s used a b oneLeft oneRight = cond (oneLeft || oneRight) (ended (step s used (Ok tt)) 0) (ended (crossed s used a b p) 1)
  meet_by (overlap p q) s used a b oneLeft oneRight =
      cond (one_layer s used a b) (ended (step s used (Ok tt)) 0) (overlapped s used a b oneLeft oneRight)

  unfoldable pub meet : Crossing P → S → ℕ → ℕ → ℕ → Meeting S
  meet crossing s used a b =
      let p = (look K s used a).point in
      let q = (right_of s used a).point in
      let p' = (look K s used b).point in
      let q' = (right_of s used b).point in
      meet_by (crossing p q p' q') s used a b (same C p p') (same C q q')
