-- A pool as loaded passes the checks of the sweep: each of its records is sound.
use Rattle.std.proofs.Common.{Err, None, Ok, Some}
use Rattle.refusals.specs.Refusals.{Verdict}
use mathlib.Core.Path.{◌≡◌, refl, sym, ap}
use mathlib.Core.Logic.{◌⊎◌, inl, inr, ⊎_elim}
use mathlib.Core.Bool.{Bool, true, false, not, cond, ◌||◌, not-not}
use mathlib.Core.List.{List}
use Prim.Native.Nat.{ℕ, suc, ◌+◌, ◌*◌, ◌<◌, ◌≤◌}
use native.Mathlib.Omega.{arith}
use borrow.Author.Tests.{eqb-true, eqb-false, not-false}
use lib.Dec.{eqb}
use lib.ListN.{length}
use Rattle.events.specs.Coordinates.{Coordinates, same, ahead}
use Rattle.events.specs.Event.{Event}
use Rattle.events.specs.Binary64.{at_binary64}
use Rattle.events.specs.Pool.{Pool, size, row_at, stored, there_number}
use Rattle.events.proofs.Stored.{pool-stored}
use Rattle.order.proofs.Laws.{ahead_apart}
use Rattle.order.proofs.AtBinary64.{laws}
use Rattle.checks.specs.Checks.{in_order, checked}
use Rattle.checks.specs.Numbers.{numbers_from}
use Rattle.checks.specs.Sound.{Sound}
use Rattle.checks.proofs.Told.{both-passed}
use Rattle.checks.proofs.Unstruck.{neither}
use Rattle.checks.proofs.Passed.{passed-checked}
use Rattle.checks.proofs.Lowest.{length-numbers, number_at}
use Rattle.loading.specs.Loading.{Edge, end, first_end, second_end, loaded, checked_edge, checked_edges}
use Rattle.loading.specs.OnPool.{edges_of, accept, after_checks, load}
use Rattle.loading.proofs.Rows.{Rows, none, more, rows}
use Rattle.loading.proofs.Accepted.{unstruck, accepted, as_many}

not-linked : (b : ℕ) → None ≡ Some b → ⊥
unfolding there_number
not-linked b e =
    let z : ◌≡◌ {A = ℕ} 0 1 = ap there_number e in
    omega arith

-- the first place of edge i, its second, or one of a later edge
place : (i r : ℕ) → 2 * i ≤ r → (r ≡ 2 * i) ⊎ ((r ≡ 2 * i + 1) ⊎ (2 * suc i ≤ r))
place i r h = by (eqb r (2 * i)) refl (eqb r (2 * i + 1)) refl
  where
    by : (t : Bool) → eqb r (2 * i) ≡ t → (u : Bool) → eqb r (2 * i + 1) ≡ u → (r ≡ 2 * i) ⊎ ((r ≡ 2 * i + 1) ⊎ (2 * suc i ≤ r))
    by true e u f = inl (eqb-true r (2 * i) e)
    by false e true f = inr (inl (eqb-true r (2 * i + 1) f))
    by false e false f =
        let a = eqb-false r (2 * i) e in
        let b = eqb-false r (2 * i + 1) f in
        inr (inr (omega arith))

-- an edge that 2 and 3 let through
pub record Fit {P : Type 0} (C : Coordinates P) (e : Edge P) : Type 0 where
  pub from : C.fit e.from ≡ true
  pub to : C.fit e.to ≡ true
  pub apart : same C e.from e.to ≡ false

fit : {P : Type 0} (C : Coordinates P) (i : ℕ) (e : Edge P) → checked_edge C i e ≡ Ok tt → Fit C e
unfolding checked_edge
fit C i e p =
    let two = unstruck (not (C.fit e.from) || not (C.fit e.to)) _ _ p in
    let three = unstruck (same C e.from e.to) _ _ two.1 in
    let ends = neither (not (C.fit e.from)) (not (C.fit e.to)) two.0 in
    record { from = not-false _ ends.0; to = not-false _ ends.1; apart = three.0 }

-- ---- the records of a store that holds the edges, below n, for a kind of coordinate where exactly one of two points that differ is ahead

module _ {P : Type 0} (C : Coordinates P) (row : ℕ → Event P) (n : ℕ) where
  -- two ends of an edge, each other's partners
  sound : (e : Edge P) (a b : ℕ) (p q : P) (left right : Bool) → row a ≡ end e p left b → row b ≡ end e q right a → a < n → b < n → C.fit p ≡ true → right ≡ not left → cond left (ahead C p q) (ahead C q p) ≡ true → Sound C row n a
  unfolding end in_order
  sound e a b p q left right u v h k f r o =
      record {
        inside = h;
        fit = rw u f;
        partner = rw u k;
        paired = rw (u, v);
        unlike = rw (u, v) r;
        ordered = rw (u, v) o;
        below = λ m g. absurd (not-linked m (rw u at g));
      }

  module _ (apart : (p q : P) → same C p q ≡ false → ahead C p q ≡ not (ahead C q p)) where
    -- the left end is ahead, whichever it is
    ordered : (e : Edge P) → Fit C e → cond (ahead C e.from e.to) (ahead C e.from e.to) (ahead C e.to e.from) ≡ true
    ordered e f = by (ahead C e.from e.to) (ahead C e.to e.from) (apart e.from e.to f.apart)
      where
        by : (t u : Bool) → t ≡ not u → cond t t u ≡ true
        by true u r = refl
        by false u r = not-false u (sym r)

    turned : (t u v : Bool) → cond t u v ≡ true → cond (not t) v u ≡ true
    turned true u v h = h
    turned false u v h = h

    pub sounds : {i : ℕ} {l : List (Edge P)} → Rows C row i l → checked_edges C i l ≡ Ok tt → 2 * (i + length l) ≤ n → (r : ℕ) → 2 * i ≤ r → r < 2 * (i + length l) → Sound C row n r
    unfolding checked_edges first_end second_end
    sounds (none i) p m r h k = absurd (omega arith)
    sounds (more i e l u v rest) p m r h k =
        let both = both-passed (checked_edge C i e) (checked_edges C (suc i) l) p in
        let f = fit C i e both.0 in
        let one = ordered e f in
        ⊎_elim
        (λ q. rw q (sound e (2 * i) (2 * i + 1) e.from e.to _ _ u v (omega arith) (omega arith) f.from refl one))
        (⊎_elim
        (λ q. rw q (sound e (2 * i + 1) (2 * i) e.to e.from _ _ v u (omega arith) (omega arith) f.to (sym (not-not _)) (turned (ahead C e.from e.to) _ _ one)))
        (λ q. sounds rest both.1 (omega arith) r q (omega arith)))
        (place i r h)

-- ---- the lent pool

module _ (ends : List (List ℕ)) (labels : List (List ℕ)) (p : Pool) where
  edges-sound : accept ends labels p ≡ Ok tt → let n = 2 * length (edges_of ends labels) in checked at_binary64 (row_at (loaded at_binary64 stored p 0 (edges_of ends labels))) n (numbers_from 0 n) ≡ Ok tt
  unfolding stored size
  edges-sound e =
      let l = edges_of ends labels in
      let n = 2 * length l in
      let a = accepted ends labels p e in
      let many = as_many ends labels p a in
      let held = rows at_binary64 pool-stored l p 0 (omega (arith, many, a.room, a.sizes.equal)) in
      passed-checked at_binary64 _ n (numbers_from 0 n)
      (λ k h.
      let r = rw length-numbers at h in
      rw (number_at 0 n k r) (sounds at_binary64 _ n (ahead_apart laws) held a.each (omega arith) (0 + k) (omega arith) (omega arith)))

  -- loading answered with the places in use: their records pass refusals 2 and 4
  pub as-loaded : (n : ℕ) → (load ends labels p).answer ≡ Ok n → checked at_binary64 (row_at (load ends labels p).pool) n (numbers_from 0 n) ≡ Ok tt
  unfolding load after_checks
  as-loaded n = by (accept ends labels p) refl
    where
      by : (t : Verdict) → accept ends labels p ≡ t → (after_checks t (edges_of ends labels) p).answer ≡ Ok n → checked at_binary64 (row_at (after_checks t (edges_of ends labels) p).pool) n (numbers_from 0 n) ≡ Ok tt
      by (Ok _) t d =
          let q : 2 * length (edges_of ends labels) ≡ n = cc in
          rw (← q) (edges-sound t)
      by (Err x) t d =
          let z : ◌≡◌ {A = ℕ} 0 1 = cc in
          absurd (omega arith)
