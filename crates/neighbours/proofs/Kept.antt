-- One run, as two that are the same: an invariant that is kept is known after every meeting. The two may use crossings of their own, if these tell the same
-- where the invariant is known.
use Rattle.division.specs.declared.Divided.{Divided}
use Rattle.std.proofs.Common.{Err, Ok, Result}
use Rattle.refusals.specs.declared.Reason.TheVariants as Reason
use Rattle.refusals.specs.declared.Refusal.{Refusal}
use mathlib.Core.Path.{◌≡◌, refl}
use Prim.Native.Nat.{ℕ, ◌+◌, ◌≤◌}
use native.Mathlib.Omega.{arith}
use lib.Dec.{eqb}
use Rattle.events.specs.Coordinates.{Coordinates, same as same_point, Cross, none, lost, point, overlap, Crossing}
use Rattle.events.specs.Store.{Store, look}
use Rattle.division.specs.Division.{divide}
use Rattle.division.proofs.Outcomes.{used-after, as_lent_lem}
use Rattle.neighbours.specs.Step.{Step, step, stop_of, cut}
use Rattle.neighbours.specs.Neighbours.{right_of, at_end, coincided, begins_first, ends_first, one_layer}
use Rattle.neighbours.proofs.Likeness.{Likeness, StepsAlike, went, halted, CrossesAlike, apart, astray, across, along, crossing_of}
use Rattle.neighbours.proofs.Walk.{MeetingLaws}
use Rattle.neighbours.proofs.Invariants.{Invariant, Crossed, Kept, Agrees}

-- ---- the same, and known

pub data Same {A : Type 0} (F : A → Type 0) : A → A → Type 0 where
  same : {a : A} → F a → Same F a a

pub is : {A : Type 0} {F : A → Type 0} {a b : A} → Same F a b → b ≡ a
is (same f) = refl

-- .. with nothing to be known
abbrev pub Any : {A : Type 0} → A → A → Type 0
Any = Same (λ a. Unit {0})

pub any : {A : Type 0} {a b : A} → b ≡ a → Any a b
any e = rw e (same tt)

pub known : {A : Type 0} {F : A → Type 0} {a b : A} → Same F a b → F a
known (same f) = f

same-later : {P S : Type 0} (I : Invariant P S) (m n r r' : ℕ) → m ≤ n → Same (I.OfNumber m) r r' → Same (I.OfNumber n) r r'
same-later I m n r r' l (same h) = same (I.later m n r l h)

unfoldable pub diagonal : {P S : Type 0} → Invariant P S → Likeness P S P S
unfolding same-later
diagonal I =
    record {
      Stores = λ n. Same (I.OfStore n);
      Numbers = λ n. Same (I.OfNumber n);
      Points = Same I.OfPoint;
      Refusals = Same I.OfRefusal;
      Departs = λ r. ⊥;
      later = same-later I;
    }

module _ {P S : Type 0} {C : Coordinates P} {K : Store P S} {crossing : Crossing P} (I : Invariant P S) (k : Kept I C K crossing) where
  abbrev B : Likeness P S P S
  B = diagonal I

  crossed : (a : ℕ) (x : Cross P) → Crossed I.OfPoint (I.OfRefusal (record { reason = Reason.Cut; place = a })) x → CrossesAlike B a a x x
  unfolding diagonal
  crossed a none h = apart
  crossed a lost h = astray (same h)
  crossed a (point p) h = across (record { alike = same h })
  crossed a (overlap p q) h = along

  pub kept-cut : (n : ℕ) (s : S) (i : ℕ) (p : P) → I.OfStore n s → I.OfNumber n i → I.OfPoint p → StepsAlike B n (n + 2) (cut C K s n i p) (cut C K s n i p)
  unfolding diagonal cut stop_of
  kept-cut n s i p h at q = go (divide C K s n i p).answer refl
    where
      after : Result Divided Refusal → Step S
      after x = step (divide C K s n i p).store (divide C K s n i p).used (stop_of x)

      go : (x : Result Divided Refusal) → (divide C K s n i p).answer ≡ x → StepsAlike B n (n + 2) (after x) (after x)
      go (Ok d) e =
          let more = used-after C K s n i p d e in
          went {n = (divide C K s n i p).used} (omega arith) (record { alike = same (k.done n s i p d h at q e) })
      go (Err r) e =
          let lent = as_lent_lem C K s n i p r e in
          let more = lent.used in
          let still : I.OfStore (divide C K s n i p).used (divide C K s n i p).store = rw (lent.store, lent.used) h in
          halted {n = (divide C K s n i p).used} (omega arith) (record { alike = same still }) (same (k.told n s i p r h at e))

  -- ---- each law at two stores that are one

  cut-alike : {n : ℕ} {s s' : S} {i i' : ℕ} {p p' : P} → Same (I.OfStore n) s s' → Same (I.OfNumber n) i i' → Same I.OfPoint p p' → StepsAlike B n (n + 2) (cut C K s n i p) (cut C K s' n i' p')
  cut-alike {n} {s} {s'} {i} {i'} {p} (same h) (same at) (same q) = kept-cut n s i p h at q

  coincides-alike : {n : ℕ} {s s' : S} {a b a' b' : ℕ} → Same (I.OfStore n) s s' → Same (I.OfNumber n) a a' → Same (I.OfNumber n) b b' → Same (I.OfStore n) (coincided C K s n a b) (coincided C K s' n a' b')
  coincides-alike {n} {s} {s'} {a} {b} (same h) (same at_a) (same at_b) = same (k.coincides n s a b h at_a at_b)

  points-alike : {n : ℕ} {s s' : S} {r r' : ℕ} → Same (I.OfStore n) s s' → r' ≡ r → Same I.OfPoint (look K s n r).point (look K s' n r').point
  points-alike {n} {s} {s'} {r} (same h) e = rw e (same (k.points n s r h))

  rights-alike : {n : ℕ} {s s' : S} {r r' : ℕ} → Same (I.OfStore n) s s' → r' ≡ r → Same I.OfPoint (right_of C K s n r).point (right_of C K s' n r').point
  rights-alike {n} {s} {s'} {r} (same h) e = rw e (same (k.points n s _ h))

  module _ (crossing' : Crossing P) (agree : Agrees I C K crossing crossing') where
    crosses-alike : {n : ℕ} {s s' : S} {a b a' b' : ℕ} → Same (I.OfStore n) s s' → Same (I.OfNumber n) a a' → Same (I.OfNumber n) b b'
        → CrossesAlike B a a' (crossing_of C K crossing s n a b) (crossing_of C K crossing' s' n a' b')
    crosses-alike {n} {s} {s'} {a} {b} (same h) (same at_a) (same at_b) = rw (agree n s a b h at_a at_b) (crossed a _ (k.crosses n s a b h at_a at_b))

    pub kept-meetings : MeetingLaws B C K crossing C K crossing'
    unfolding diagonal
    kept-meetings =
        record {
          points = λ w h. record { alike = points-alike w.alike (is h.alike) };
          rights = λ w h. record { alike = rights-alike w.alike (is h.alike) };
          at-end = λ {n} w h q. λ i. at_end C K (is w.alike i) n (is h.alike i) (is q.alike i);
          fresh = λ w l. record { alike = same (k.fresh _ _ l) };
          cuts = λ w h q. cut-alike w.alike h.alike q.alike;
          one_number = λ w h l. λ i. eqb (is h.alike i) (is l.alike i);
          one_left = λ {n} w h l. λ i. same_point C (look K (is w.alike i) n (is h.alike i)).point (look K (is w.alike i) n (is l.alike i)).point;
          one_right = λ {n} w h l. λ i. same_point C (right_of C K (is w.alike i) n (is h.alike i)).point (right_of C K (is w.alike i) n (is l.alike i)).point;
          one-layer = λ {n} w h l. λ i. one_layer C K (is w.alike i) n (is h.alike i) (is l.alike i);
          begins = λ {n} w h l. λ i. begins_first C K (is w.alike i) n (is h.alike i) (is l.alike i);
          ends = λ {n} w h l. λ i. ends_first C K (is w.alike i) n (is h.alike i) (is l.alike i);
          crosses = λ w h l. crosses-alike w.alike h.alike l.alike;
          coincides = λ w h l. record { alike = coincides-alike w.alike h.alike l.alike };
        }
