-- The partners of the new records taken out: the rest have the keys that they had, and stay in order.
use mathlib.Core.Path.{◌≡◌, refl, sym, ap, ◌∙◌}
use mathlib.Core.Bool.{Bool, true, false, not, cond, ◌&&◌, ◌||◌, and-true, and-false, or-false}
use mathlib.Core.List.{List}
use Prim.Native.Nat.{ℕ, zero, suc, ◌+◌, ◌<◌, ◌≤◌}
use native.Mathlib.Omega.{arith}
use lib.Dec.{eqb, ltb}
use borrow.Author.Tests.{ltb-true, lt-ltb, eqb-true, not-true}
use Rattle.waiting.specs.Queue.{leads, has, Queued, without, is_older, evicted}
use Rattle.waiting.proofs.Leading.{Orders}
use Rattle.waiting.proofs.Members.{both, ordered-alike}
use Rattle.waiting.proofs.Queues.{is_below_lem, is-waiting}
use Rattle.waiting.proofs.Puts.{queued-alike, without_is}
use Rattle.waiting.proofs.Moved.{moved, moved_none, moved-suc, not-moved}

neither : (a b c : Bool) → ((a && not b) && not c) ≡ (a && not (b || c))
neither true true c = refl
neither true false c = refl
neither false b c = refl

module _ (partner : ℕ → ℕ) (from n : ℕ) (pairs : (r : ℕ) → r < from + n → (partner r < from + n) × (partner (partner r) ≡ r)) (waits : ℕ → Bool)
    (before before' : ℕ → ℕ → Bool) (l : List ℕ) (O : Orders before from) (Q : Queued waits before from l)
    (same : (a b : ℕ) → a < from → b < from → partner a < from → partner b < from → before' a b ≡ before a b) where
  -- one that does not wait is not in the queue, and none is taken out for it
  absent : (w m c : Bool) → (c ≡ true → w ≡ false) → (w && not m) ≡ (w && not (m || c))
  absent w m true h = rw (h refl)
  absent w m false h = rw (or-false m)

  out : (k : ℕ) → k ≤ n → Queued (λ r. waits r && not (moved partner from k r)) before from (evicted partner from waits k l)
  unfolding evicted is_older
  out zero h = queued-alike (λ r b. rw (moved_none partner from n pairs r) (sym (and-true (waits r)))) Q
  out (suc k) h = go (out k (omega arith)) (ltb o from && waits o) refl
    where
      o : ℕ
      o = partner (from + k)

      next : (r : ℕ) → r < from → (waits r && not (moved partner from k r || eqb o r)) ≡ (waits r && not (moved partner from (suc k) r))
      next r b = ap (λ (t : Bool). waits r && not t) (sym (moved-suc partner from n pairs k r h (omega arith)))

      go : Queued (λ r. waits r && not (moved partner from k r)) before from (evicted partner from waits k l) → (t : Bool) → (ltb o from && waits o) ≡ t
          → Queued (λ r. waits r && not (moved partner from (suc k) r)) before from (cond t (without (evicted partner from waits k l) o) (evicted partner from waits k l))
      go q true e = queued-alike (λ r b. neither (waits r) (moved partner from k r) (eqb o r) ∙ next r b) (without_is O q o)
      go q false e = queued-alike (λ r b. absent (waits r) (moved partner from k r) (eqb o r) (gone r b) ∙ next r b) q
        where
          gone : (r : ℕ) → r < from → eqb o r ≡ true → waits r ≡ false
          gone r b j = let i = eqb-true o r j in rw (i, lt-ltb r from b) at e

  kept : Queued (λ r. waits r && not (moved partner from n r)) before from (evicted partner from waits n l)
  kept = out n (omega arith)

  old-partner : (r : ℕ) → has (evicted partner from waits n l) r ≡ true → partner r < from
  old-partner r h =
      let b = is_below_lem kept r h in
      let still = (both (waits r) (not (moved partner from n r)) (is-waiting kept r h)).1 in
      not-moved partner from n pairs r (omega arith) (not-true (moved partner from n r) still)

  leads-alike : (a b : ℕ) → has (evicted partner from waits n l) a ≡ true → has (evicted partner from waits n l) b ≡ true → leads before' a b ≡ leads before a b
  unfolding leads
  leads-alike a b p q =
      let i = is_below_lem kept a p in
      let j = is_below_lem kept b q in
      let u = old-partner a p in
      let v = old-partner b q in
      rw (same a b i j u v, same b a j i v u)

  pub evicted-is : Queued (λ r. ltb r from && (waits r && not (moved partner from n r))) before' (from + n) (evicted partner from waits n l)
  evicted-is =
      record {
        members = λ r. kept.members r ∙ go (waits r && not (moved partner from n r)) r (ltb r from) refl;
        ordered = ordered-alike before before' (evicted partner from waits n l) leads-alike kept.ordered;
      }
    where
      go : (w : Bool) (r : ℕ) (t : Bool) → ltb r from ≡ t → (t && w) ≡ (ltb r (from + n) && (t && w))
      go w r true e =
          let b = ltb-true r from e in
          rw (lt-ltb r (from + n) (omega arith))
      go w r false e = sym (and-false (ltb r (from + n)))
