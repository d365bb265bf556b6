-- Through one event's work a record that was in use keeps its key, unless its partner is new after it: a cut gives new partners to the two ends of the
-- segment that it divides, and no other record is linked anew.
use Rattle.std.proofs.Common.{Ok}
use mathlib.Core.Path.{◌≡◌, refl, ap, ◌∙◌, subst}
use mathlib.Core.Logic.{◌≢◌}
use mathlib.Core.Bool.{Bool}
use Prim.Native.Nat.{ℕ, ◌+◌, ◌<◌, ◌≤◌}
use native.Mathlib.Omega.{arith}
use Rattle.events.specs.Coordinates.{Coordinates, Crossing}
use Rattle.events.specs.Event.{Event}
use Rattle.events.specs.Store.{Store, look}
use Rattle.events.proofs.Stored.{Stored}
use Rattle.events.proofs.Looks.{Blanks}
use Rattle.events.proofs.Faces.{Face, face-store}
use Rattle.order.specs.Keys.{key_of, key_used}
use Rattle.division.specs.declared.Divided.{Divided}
use Rattle.division.specs.Division.{linked, divide}
use Rattle.division.proofs.Outcomes.{passed, used-after}
use Rattle.division.proofs.Sides.{MoveLaws}
use Rattle.division.proofs.Whole.{Whole, whole}
use Rattle.neighbours.proofs.Invariants.{Kept, store_alone, store_kept}
use Rattle.sweep.specs.Lined.{Sound, Good}
use Rattle.sweep.proofs.Good.{key-alike, good-put, good-divided, left-in-use, segment, key-beside}

-- from a store with n places in use to one with more
pub record Framed {P S : Type 0} (C : Coordinates P) (K : Store P S) (t : S) (n : ℕ) (s : S) (used : ℕ) : Type 0 where
  pub good : Good C K s used
  pub low : n ≤ used
  pub keys : (r : ℕ) → r < n → (look K s used r).partner < n → key_used K s used r ≡ key_used K t n r

module _ {P S : Type 0} {C : Coordinates P} {K : Store P S} (M : MoveLaws C) (st : Stored K) (bl : Blanks K) (t : S) (n : ℕ) where
  framed-put : (s : S) (used i : ℕ) (e : Event P) → Framed C K t n s used → Face e (look K s used i) → Framed C K t n (K.store s i e) used
  unfolding key_used
  framed-put s used i e h f =
      let alike = face-store st s used i e h.good.fits f in
      record {
        good = good-put M st bl s used i e h.good f;
        low = h.low;
        keys = λ r l m. key-alike C alike r ∙ h.keys r l (subst (λ k. k < n) (alike r).partner m);
      }

  -- ---- a division

  module _ {row row' : ℕ → Event P} {used i : ℕ} {c : P} {move : Bool} {d : Divided} (h : (r : ℕ) → r < used → Sound C row used r) (own : i < used)
      (w : Whole C row row' used i c move d) (low : n ≤ used) (r : ℕ) (m : (row' r).partner < n) where
    not_own : r ≢ i
    unfolding linked
    not_own e =
        let p : (row' r).partner ≡ used = ap (λ k. (row' k).partner) e ∙ ap (λ (x : Event P). x.partner) w.records.own in
        omega arith

    not-other : r ≢ (row i).partner
    unfolding linked
    not-other e =
        let p : (row' r).partner ≡ used + 1 = ap (λ k. (row' k).partner) e ∙ ap (λ (x : Event P). x.partner) w.records.other in
        omega arith

    same_key : r < n → key_of row' r ≡ key_of row r
    same_key l = key-beside M st bl h own w r (omega arith) not_own not-other

    same-partner : r < n → (row' r).partner ≡ (row r).partner
    same-partner l = ap (λ (x : Event P). x.partner) (w.records.rest r (λ e. omega arith) (λ e. omega arith) not_own not-other)

  framed-divided : (s : S) (used i : ℕ) (p : P) → Framed C K t n s used → (d : Divided) → (divide C K s used i p).answer ≡ Ok d
      → Framed C K t n (divide C K s used i p).store (divide C K s used i p).used
  unfolding key_used
  framed-divided s used i p h d q =
      let ok = passed C K s used i p d q in
      let sound = h.good.sound in
      let own = left-in-use M st bl s used i ok.left in
      let w = whole M st s used i p d q (segment M st bl s used h.good i ok.left) in
      let more = used-after C K s used i p d q in
      let low = h.low in
      record {
        good = good-divided M st bl s used i p h.good d q;
        low = omega arith;
        keys = λ r l m. same_key sound own w low r m l ∙ h.keys r l (subst (λ k. k < n) (same-partner sound own w low r m l) m);
      }

  pub framed : (crossing : Crossing P) → Kept (store_alone (λ m s. Framed C K t n s m)) C K crossing
  framed crossing =
      store_kept C K crossing (λ m s. Framed C K t n s m) st (λ m s h. h.good.fits) (λ m s i e h f. framed-put s m i e h f) (λ m s i p d h q. framed-divided s m i p h d q)

  pub framed-still : Good C K t n → Framed C K t n t n
  framed-still g = record { good = g; low = omega arith; keys = λ r l m. refl }
