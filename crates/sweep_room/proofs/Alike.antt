-- The front of a store and the whole, side by side: every test reads records in use, so that it is one test in both, and only the test for room sees how
-- many places there are. What a turn asks of two runs (`sweep`) is shown here law by law.
use Rattle.refusals.specs.Refusals.{same_reason}
use Rattle.std.proofs.Common.{Option, None, Some}
use Rattle.refusals.specs.declared.Reason.TheVariants as Reason
use mathlib.Core.Path.{◌≡◌, refl, sym, ap, ap₂, ◌∙◌}
use mathlib.Core.Bool.{Bool, true, false, not, cond, ◌||◌}
use Prim.Native.Nat.{ℕ, ◌+◌}
use native.Mathlib.Omega.{arith}
use lib.Dec.{eqb}
use Rattle.events.specs.Coordinates.{Coordinates, Crossing}
use Rattle.events.specs.Event.{Event}
use Rattle.events.specs.Store.{Store, look}
use Rattle.events.proofs.Stored.{Stored}
use Rattle.order.specs.Keys.{key_used}
use Rattle.class.specs.declared.Operation.{Operation}
use Rattle.class.specs.Class.{fields, Neighbour}
use Rattle.division.specs.Division.{moves, moved, misses, keeps, full, parted, refused, done, divide_at, divide}
use Rattle.division.proofs.Records.{size-parted}
use Rattle.neighbours.specs.Step.{stop_of, cut}
use Rattle.neighbours.specs.Neighbours.{coincided}
use Rattle.neighbours.proofs.Likeness.{Likeness, StepsAlike, went, halted, out, step_of}
use Rattle.neighbours.proofs.Keyed.{Keyed}
use Rattle.neighbours.proofs.Kept.{same, is, Any, any}
use Rattle.sweep_events.specs.Event.{neighbour_in, lower_in, classified}
use Rattle.sweep_events.proofs.Walk.{LinksAlike, nowhere, leads}
use Rattle.sweep.proofs.Walk.{TurnLaws, keyed-turns}
use Rattle.sweep_room.proofs.Fronts.{Front, Within, look-front, right-front, key-front, room-front, two-more, within-store}

-- ---- what is alike

-- the front of a store of which no more than n places are in use
pub data Fronted {P S : Type 0} {K : Store P S} {n : ℕ} (F : Front K n) (m : ℕ) : S → S → Type 0 where
  front : {s : S} → Within K n s m → Fronted F m s (F.front s)

-- the run in the front goes its own way when it wants room
unfoldable pub fronts : {P S : Type 0} {K : Store P S} {n : ℕ} → Front K n → Likeness P S P S
fronts F = record { Stores = Fronted F; Numbers = λ m. Any; Points = Any; Refusals = Any; Departs = λ r. same_reason r.reason Reason.Full ≡ true; later = λ m k r r' l h. h }

module _ {P S : Type 0} (C : Coordinates P) {K : Store P S} (st : Stored K) {n : ℕ} (F : Front K n) where
  abbrev B : Likeness P S P S
  B = fronts F

  -- ---- division
  parted-front : (s : S) (m i : ℕ) (e f : Event P) (c : P) (keep : Bool) → parted K (F.front s) m i e f c keep ≡ F.front (parted K s m i e f c keep)
  unfolding parted
  parted-front s m i e f c keep = simp (F.enter-front, F.store-front)

  divide-front : {s : S} {m : ℕ} → Within K n s m → (i : ℕ) (e f : Event P) (c : P) (move : Bool)
      → StepsAlike B m (m + 2) (step_of (divide_at C K s m i e f c move)) (step_of (divide_at C K (F.front s) m i e f c move))
  unfolding divide_at refused done stop_of fronts
  divide-front {s} {m} w i e f c move = go (not e.left || misses C e.point f.point c) (full K (F.front s) m) refl
    where
      keep : Bool
      keep = keeps C e f c

      go : (off short : Bool) → full K (F.front s) m ≡ short
          → StepsAlike B m (m + 2) (step_of (cond off (refused s m Reason.Cut i) (cond (full K s m) (refused s m Reason.Full i) (done C K s m i e f c move))))
          (step_of (cond off (refused (F.front s) m Reason.Cut i) (cond short (refused (F.front s) m Reason.Full i) (done C K (F.front s) m i e f c move))))
      go true short q = halted {n = m} (omega arith) (record { alike = front w }) (same tt)
      go false true q = out refl
      go false false q =
          let within : Within K n (parted K s m i e f c keep) (m + 2) = record { wide = rw (size-parted st s m i e f c keep) w.wide; fits = two-more F w q } in
          rw (room-front F w q, parted-front s m i e f c keep) (went {n = m + 2} (omega arith) (record { alike = front within }))

  cut-front : {s s' : S} {m i i' : ℕ} {p p' : P} → Fronted F m s s' → Any i i' → Any p p' → StepsAlike B m (m + 2) (cut C K s m i p) (cut C K s' m i' p')
  unfolding cut divide
  cut-front {s} {s'} {m} {i} {i'} {p} (front w) (same _) (same _) =
      rw (look-front F w) (divide-front w i (look K s m i) (look K s m (look K s m i).partner) (moved C (look K s m i).point p) (moves C (look K s m i).point p))

  -- ---- what is read
  key-alike : {s s' : S} {m r r' : ℕ} → Fronted F m s s' → Any r r' → key_used K s' m r' ≡ key_used K s m r
  key-alike (front w) (same _) = rw (key-front F w)

  mate-alike : {s s' : S} {m r r' : ℕ} → Fronted F m s s' → Any r r' → Any (look K s m r).partner (look K s' m r').partner
  mate-alike (front w) (same _) = rw (look-front F w) (same tt)

  -- ---- what is stored
  coincide-alike : {s s' : S} {m a b a' b' : ℕ} → Fronted F m s s' → Any a a' → Any b b' → Fronted F m (coincided C K s m a b) (coincided C K s' m a' b')
  unfolding coincided
  coincide-alike {s} {s'} {m} {a} {b} (front w) (same _) (same _) =
      let is_front : coincided C K (F.front s) m a b ≡ F.front (coincided C K s m a b) = rw (coincided, look-front F w) (simp F.store-front) in
      rw is_front (front (within-store F (within-store F w st b _) st a _))

  lower-front : {s : S} {m : ℕ} → Within K n s m → (l : Option ℕ) → lower_in C K (F.front s) m l ≡ lower_in C K s m l
  unfolding lower_in neighbour_in
  lower-front w None = refl
  lower-front w (Some k) = rw (right-front F w k, look-front F w)

  class-alike : (op : Operation) (m : ℕ) (s s' : S) (e e' : ℕ) (l l' : Option ℕ) → Fronted F m s s' → Any e e' → l' ≡ l → Fronted F m (classified C K op s m e l) (classified C K op s' m e' l')
  unfolding classified
  class-alike op m s s' e e' l l' (front w) (same _) q =
      let is_front : classified C K op (F.front s) m e l ≡ F.front (classified C K op s m e l)
      = ap₂ (λ (own : Event P) (below : Option (Neighbour P)). K.store (F.front s) e (fields op own below)) (ap (λ (row : ℕ → Event P). row e) (look-front F w)) (lower-front w l)
      ∙ sym (F.store-front s e (fields op (look K s m e) (lower_in C K s m l))) in
      rw (q, is_front) (front (within-store F w st e _))

  link-is : {m : ℕ} {l l' : Option ℕ} → LinksAlike B m l l' → l' ≡ l
  unfolding fronts
  link-is nowhere = refl
  link-is (leads h) = λ i. Some (is h.alike i)

  -- ---- what a turn asks
  pub keyed-front : Keyed B C K K
  unfolding fronts
  keyed-front =
      record {
        keys = λ w h. key-alike w.alike h.alike;
        mates = λ w h. record { alike = mate-alike w.alike h.alike };
        one_number = λ w h l. ap₂ eqb (is h.alike) (is l.alike);
        fresh = λ w l. record { alike = same tt };
        points = λ e. record { alike = any e };
        points-are = λ q. is q.alike;
        told = λ h. any (ap (λ k. record { reason = Reason.Cut; place = k }) (is h.alike));
        cuts = λ w h e. cut-front w.alike h.alike (any e);
        coincides = λ w h l. record { alike = coincide-alike w.alike h.alike l.alike };
      }

  pub turns-front : (crossing : Crossing P) (op : Operation) (past : P → Bool) → TurnLaws B op C K crossing past op C K crossing past
  unfolding fronts
  turns-front crossing op past =
      keyed-turns keyed-front crossing op op past (λ m s s' e e' l l' w h q. record { alike = class-alike op m s s' e e' l l' w.alike h.alike (link-is q) })
