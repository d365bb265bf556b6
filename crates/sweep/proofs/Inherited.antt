-- What every end and its partner have in common stays so through the whole sweep, if the two halves of a divided edge inherit it.
use Rattle.std.proofs.Common.{Ok}
use mathlib.Core.Path.{◌≡◌, refl, sym, ap, ◌∙◌, subst}
use mathlib.Core.Logic.{⊎_elim}
use mathlib.Core.Bool.{Bool, true, false, cond}
use Prim.Native.Nat.{ℕ, ◌+◌, ◌<◌}
use native.Mathlib.Omega.{arith}
use Rattle.events.specs.Coordinates.{Coordinates, Crossing}
use Rattle.events.specs.Event.{Event}
use Rattle.events.specs.Store.{Store, look}
use Rattle.events.proofs.Stored.{Stored}
use Rattle.events.proofs.Looks.{Blanks, used-or-blank}
use Rattle.events.proofs.Faces.{Face, face-store}
use Rattle.class.specs.declared.Operation.{Operation}
use Rattle.division.specs.declared.Divided.{Divided}
use Rattle.division.specs.Division.{moves, moved, new_end, linked, divide}
use Rattle.division.proofs.Records.{in_parts}
use Rattle.division.proofs.Pairs.{aside}
use Rattle.division.proofs.Outcomes.{passed, used-after}
use Rattle.division.proofs.Sides.{MoveLaws}
use Rattle.division.proofs.Whole.{Whole, whole}
use Rattle.neighbours.proofs.Invariants.{Invariant, Crossed, Puts, Kept, coincides-put}
use Rattle.sweep.specs.Run.{subdivide}
use Rattle.sweep.specs.Lined.{Sound, Good}
use Rattle.sweep.proofs.Kept.{kept-sweep}
use Rattle.sweep.proofs.Good.{good-put, good-divided, left-in-use, segment}

-- A: of an end and its partner; Q: of a point
pub record Inherited {P S : Type 0} (C : Coordinates P) (K : Store P S) (crossing : Crossing P) (A : Event P → Event P → Type 0) (Q : P → Type 0) : Type 0 where
  -- of each end with the other
  pub swaps : (e f : Event P) → A e f → A f e
  -- of records with the same faces
  pub faces : (e f e' f' : Event P) → Face e' e → Face f' f → A e f → A e' f'
  -- the edge from e to f, cut at c: its first half, and its second
  pub first : (e f : Event P) (c : P) (i j : ℕ) (left : Bool) → A e f → Q c → A (linked e j left) (new_end e c false i)
  pub second : (e f : Event P) (c : P) (o j : ℕ) (keep left : Bool) → A e f → Q c → A (new_end e c keep o) (linked f j left)
  -- points: of a record, of no record, one step further, where two segments cross
  pub point : (e f : Event P) → A e f → Q e.point
  pub nowhere : (r : ℕ) → Q (K.blank r).point
  pub step : (p : P) → Q p → Q (C.next_x p)
  pub crosses : (p q p' q' : P) → Q p → Q q → Q p' → Q q' → Crossed Q (Unit {0}) (crossing p q p' q')

-- every record in use, with its partner
abbrev pub Each : {P S : Type 0} → Store P S → (Event P → Event P → Type 0) → S → ℕ → Type 0
Each K A s n = (r : ℕ) → r < n → A (look K s n r) (look K s n (look K s n r).partner)

module _ {P S : Type 0} {C : Coordinates P} {K : Store P S} {crossing : Crossing P} (M : MoveLaws C) (st : Stored K) (bl : Blanks K) (A : Event P → Event P → Type 0) (Q : P → Type 0)
    (h : Inherited C K crossing A Q) where
  record Inherits (n : ℕ) (s : S) : Type 0 where
    pub good : Good C K s n
    pub each : Each K A s n

  unfoldable inherits : Invariant P S
  inherits = record { OfStore = Inherits; OfNumber = λ n r. Unit {0}; OfPoint = Q; OfRefusal = λ r. Unit {0}; later = λ m n r l x. tt }

  -- ---- points

  read : (n : ℕ) (s : S) (r : ℕ) → Inherits n s → Q (look K s n r).point
  read n s r g = ⊎_elim (λ l. h.point _ _ (g.each r l)) (λ e. subst (λ (x : Event P). Q x.point) (sym e) (h.nowhere r)) (used-or-blank K s n r)

  moved-too : (l p : P) → Q p → Q (moved C l p)
  unfolding moved
  moved-too l p q = go (moves C l p)
    where
      go : (b : Bool) → Q (cond b (C.next_x p) p)
      go true = h.step p q
      go false = q

  -- ---- a record stored

  put : Puts K Inherits (λ n r. Unit {0})
  put n s i e g x f =
      let a = face-store st s n i e g.good.fits f in
      record {
        good = good-put M st bl s n i e g.good f;
        each = λ r l. h.faces _ _ _ _ (a r) (subst (λ k. Face (look K (K.store s i e) n k) (look K s n (look K s n r).partner)) (sym (a r).partner) (a (look K s n r).partner)) (g.each r l);
      }

  -- ---- a division

  module _ {row row' : ℕ → Event P} {n i : ℕ} {c : P} {move : Bool} {d : Divided} (sound : (r : ℕ) → r < n → Sound C row n r) (own : i < n) (w : Whole C row row' n i c move d)
      (all : (r : ℕ) → r < n → A (row r) (row (row r).partner)) (q : Q c) where
    abbrev o : ℕ
    o = (row i).partner

    -- a record and its partner after the division
    at : (r k : ℕ) (e f : Event P) → row' r ≡ e → e.partner ≡ k → row' k ≡ f → A e f → A (row' r) (row' (row' r).partner)
    at r k e f x y z a =
        subst (λ (e' : Event P). A e' (row' (row' r).partner)) (sym x) (subst (A e) (sym (ap row' (ap (λ (e' : Event P). e'.partner) x ∙ y) ∙ z)) a)

    every : (r : ℕ) → r < n + 2 → A (row' r) (row' (row' r).partner)
    unfolding new_end linked
    every =
        let first = h.first _ _ c i n (row i).left (all i own) q in
        let second = h.second _ _ c o (n + 1) _ _ (all i own) q in
        in_parts (λ r. A (row' r) (row' (row' r).partner)) n i o
        (at n i _ _ w.records.right refl w.records.own (h.swaps _ _ first))
        (at (n + 1) o _ _ w.records.left refl w.records.other second)
        (at i n _ _ w.records.own refl w.records.right first)
        (at o (n + 1) _ _ w.records.other refl w.records.left (h.swaps _ _ second))
        (λ r l not-i not-o.
        let same = aside w.records (sound i own).paired r (sound r l).paired not-i not-o in
        at r (row r).partner _ _ same.0 refl same.1 (all r l))

  done : (n : ℕ) (s : S) (i : ℕ) (p : P) (d : Divided) → Inherits n s → Unit {0} → Q p → (divide C K s n i p).answer ≡ Ok d → Inherits (divide C K s n i p).used (divide C K s n i p).store
  done n s i p d g x q e =
      let ok = passed C K s n i p d e in
      let own = left-in-use M st bl s n i ok.left in
      let w = whole M st s n i p d e (segment M st bl s n g.good i ok.left) in
      let more = used-after C K s n i p d e in
      record {
        good = good-divided M st bl s n i p g.good d e;
        each = λ r l. every g.good.sound own w g.each (moved-too (look K s n i).point p q) r (omega arith);
      }

  -- ---- the sweep

  inherits-kept : Kept inherits C K crossing
  unfolding inherits
  inherits-kept =
      record {
        points = read;
        fresh = λ n m l. tt;
        crosses = λ n s a b g x y. h.crosses _ _ _ _ (read n s a g) (read n s _ g) (read n s b g) (read n s _ g);
        put = put;
        coincides = coincides-put C K Inherits (λ n r. Unit {0}) st (λ n s g. g.good.fits) put;
        done = done;
        told = λ n s i p r g x e. tt;
      }

  pub stays : (op : Operation) (s : S) (n : ℕ) → Good C K s n → Each K A s n → let z = subdivide C K crossing op s n in Each K A z.store z.used
  unfolding inherits
  stays op s n g a = (kept-sweep inherits inherits-kept (λ m e l. tt) op s n (record { good = g; each = a })).store.each
