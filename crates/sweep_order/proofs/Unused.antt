-- Places that are not in use stay as lent: a step writes at the event taken, at members of the status, at the ends of a divided segment and at the two
-- new places, and all these are in use after it.
use Rattle.std.proofs.Common.{Ok}
use mathlib.Core.Path.{◌≡◌, refl, ap, ◌∙◌}
use mathlib.Core.Logic.{◌≢◌}
use mathlib.Core.Bool.{Bool}
use Prim.Native.Nat.{ℕ, ◌+◌, ◌<◌, ◌≤◌}
use native.Mathlib.Omega.{arith}
use Rattle.events.specs.Coordinates.{Coordinates, Crossing}
use Rattle.events.specs.Event.{Event}
use Rattle.events.specs.Store.{Store, look}
use Rattle.events.proofs.Stored.{Stored}
use Rattle.events.proofs.Looks.{Blanks}
use Rattle.events.proofs.Faces.{Face}
use Rattle.class.specs.declared.Operation.{Operation}
use Rattle.division.specs.declared.Divided.{Divided}
use Rattle.division.specs.Division.{moved, After, parted, done, divide}
use Rattle.division.proofs.Outcomes.{passed}
use Rattle.division.proofs.Sides.{MoveLaws}
use Rattle.neighbours.proofs.Invariants.{numbers_in_use, Kept, used-kept}
use Rattle.sweep.specs.Bounds.{past}
use Rattle.sweep.specs.Lined.{Good}
use Rattle.sweep.proofs.Kept.{keeping_start, kept_run}
use Rattle.sweep.proofs.Good.{good-put, good-divided, left-in-use}
use Rattle.sweep_order.specs.Loadings.{after}

-- what a place holds, read in any way that a write elsewhere leaves alone
module _ {P S A : Type 0} {C : Coordinates P} {K : Store P S} (M : MoveLaws C) (st : Stored K) (bl : Blanks K) (held : S → ℕ → A)
    (away-enter : (s : S) (i j : ℕ) (e : Event P) → j ≢ i → held (K.enter s i e) j ≡ held s j)
    (away : (s : S) (i j : ℕ) (e : Event P) → j ≢ i → held (K.store s i e) j ≡ held s j) (lent : S) where
  record AsLent (used : ℕ) (s : S) : Type 0 where
    pub good : Good C K s used
    pub rest : (r : ℕ) → used ≤ r → held s r ≡ held lent r

  lent-put : (used : ℕ) (s : S) (i : ℕ) (e : Event P) → AsLent used s → i < used → Face e (look K s used i) → AsLent used (K.store s i e)
  lent-put used s i e h l f = record { good = good-put M st bl s used i e h.good f; rest = λ r k. away s i r e (λ q. omega arith) ∙ h.rest r k }

  held-parted : (s : S) (used i : ℕ) (e f : Event P) (c : P) (keep : Bool) → i < used → e.partner < used → (r : ℕ) → used + 2 ≤ r → held (parted K s used i e f c keep) r ≡ held s r
  unfolding parted
  held-parted s used i e f c keep own other r l =
      away _ e.partner r _ (λ q. omega arith) ∙ away _ i r _ (λ q. omega arith) ∙ away-enter _ (used + 1) r _ (λ q. omega arith) ∙ away-enter s used r _ (λ q. omega arith)

  lent-divided : (used : ℕ) (s : S) (i : ℕ) (p : P) (d : Divided) → AsLent used s → (divide C K s used i p).answer ≡ Ok d → AsLent (divide C K s used i p).used (divide C K s used i p).store
  unfolding done
  lent-divided used s i p d h q =
      let ok = passed C K s used i p d q in
      let e = look K s used i in
      let own = left-in-use M st bl s used i ok.left in
      let other = (h.good.sound i own).paired.other in
      let more : (divide C K s used i p).used ≡ used + 2 = ap (λ (a : After S). a.used) ok.is in
      record {
        good = good-divided M st bl s used i p h.good d q;
        rest = λ r l.
            ap (λ (a : After S). held a.store r) ok.is ∙ held-parted s used i e (look K s used e.partner) (moved C e.point p) _ own other r (omega arith)
            ∙ h.rest r (omega arith);
      }

  lent-kept : (crossing : Crossing P) → Kept (numbers_in_use AsLent) C K crossing
  lent-kept crossing = used-kept C K crossing AsLent st (λ used s h. h.good.fits) lent-put lent-divided

module _ {P S A : Type 0} {C : Coordinates P} {K : Store P S} (M : MoveLaws C) (st : Stored K) (bl : Blanks K) (crossing : Crossing P) (op : Operation) (held : S → ℕ → A)
    (away-enter : (s : S) (i j : ℕ) (e : Event P) → j ≢ i → held (K.enter s i e) j ≡ held s j)
    (away : (s : S) (i j : ℕ) (e : Event P) → j ≢ i → held (K.store s i e) j ≡ held s j) where
  pub unused : (s : S) (n : ℕ) → Good C K s n → (k r : ℕ) → (after C K crossing op k s n).used ≤ r → held (after C K crossing op k s n).store r ≡ held s r
  unfolding after numbers_in_use
  unused s n g k =
      (kept_run (numbers_in_use (AsLent M st bl held away-enter away s)) (lent-kept M st bl held away-enter away s crossing) op (past C op (K.row_at s) n) (λ m e l. l) k _
      (keeping_start _ s (K.size s) n (record { good = g; rest = λ r l. refl }))).store.rest
