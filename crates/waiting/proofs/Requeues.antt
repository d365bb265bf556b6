-- The new records put in one by one, each with its partner if that was taken out: in the end the queue holds all that wait.
use mathlib.Core.Path.{◌≡◌, refl, sym, ap, ◌∙◌}
use mathlib.Core.Bool.{Bool, true, false, not, cond, ◌&&◌, ◌||◌, and-true, and-false, or-true, or-false, not-or_self, true≢false}
use mathlib.Core.List.{List}
use Prim.Native.Nat.{ℕ, zero, suc, ◌+◌, ◌<◌, ◌≤◌}
use native.Mathlib.Omega.{arith}
use lib.Dec.{eqb, ltb}
use borrow.Author.Tests.{ltb-true, ltb-false, lt-ltb, le-ltb, le-leb, eqb-true, ne_eqb}
use Rattle.waiting.specs.Queue.{Queued, put, is_older, evicted, admit, admitted, requeued}
use Rattle.waiting.proofs.Leading.{Orders}
use Rattle.waiting.proofs.Members.{both, unless}
use Rattle.waiting.proofs.Puts.{queued-alike, put_is}
use Rattle.waiting.proofs.Moved.{moved, ltb-suc, moved_none, moved-suc}
use Rattle.waiting.proofs.Evictions.{evicted-is}

-- t tells whether the one that c names is put in
put_back : (w u m c t : Bool) → (c ≡ true → t ≡ w) → (((w && (u || m)) || false) || (t && c)) ≡ (w && (u || (m || c)))
put_back w u m true t h = rw (h refl, or-true m, or-true u) (go w)
  where
    go : (w : Bool) → (((w && (u || m)) || false) || (w && true)) ≡ (w && true)
    go true = or-true ((u || m) || false)
    go false = refl
put_back w u m false t h = rw (and-false t, or-false m) (or-false ((w && (u || m)) || false) ∙ or-false (w && (u || m)))

-- r waits in the queue once the first k of n new ones are put in: an old one that kept its partner or was put back, or a new one
unfoldable held : (ℕ → ℕ) → ℕ → ℕ → (ℕ → Bool) → ℕ → ℕ → Bool
held partner from n waits k r = cond (ltb r from) (waits r && (not (moved partner from n r) || moved partner from k r)) (ltb r (from + k))

module _ (partner : ℕ → ℕ) (from n : ℕ) (pairs : (r : ℕ) → r < from + n → (partner r < from + n) × (partner (partner r) ≡ r)) (waits : ℕ → Bool) where
  none-held : (r : ℕ) → (ltb r from && (waits r && not (moved partner from n r))) ≡ held partner from n waits 0 r
  unfolding held
  none-held r = go (ltb r from) refl
    where
      go : (t : Bool) → ltb r from ≡ t → (t && (waits r && not (moved partner from n r)))
          ≡ cond t (waits r && (not (moved partner from n r) || moved partner from 0 r)) (ltb r (from + 0))
      go true e = rw (moved_none partner from n pairs r, or-false (not (moved partner from n r)))
      go false e = let b = ltb-false r from e in sym (le-ltb r (from + 0) (omega arith))

  all_held : ((r : ℕ) → from ≤ r → r < from + n → waits r ≡ true) → (r : ℕ) → r < from + n → held partner from n waits n r ≡ waits r
  unfolding held
  all_held fresh r b = go (ltb r from) refl
    where
      go : (t : Bool) → ltb r from ≡ t → cond t (waits r && (not (moved partner from n r) || moved partner from n r)) (ltb r (from + n)) ≡ waits r
      go true e = rw (not-or_self (moved partner from n r)) (and-true (waits r))
      go false e = lt-ltb r (from + n) b ∙ sym (fresh r (ltb-false r from e) b)

  -- ---- one new record: number x, its partner o

  module _ (k : ℕ) (h : k < n) where
    abbrev x : ℕ
    x = from + k

    abbrev o : ℕ
    o = partner x

    x-new : held partner from n waits k x ≡ false
    unfolding held
    x-new = rw (le-ltb x from (omega arith)) (le-ltb x x (omega arith))

    -- an older partner was taken out, and is not in again
    o-out : o < from → held partner from n waits k o ≡ false
    unfolding held moved
    o-out b =
        rw (lt-ltb o from b, (pairs x (omega arith)).1, le-leb from x (omega arith), lt-ltb x (from + n) (omega arith), le-ltb x x (omega arith))
        (and-false (waits o))

    next-held : (r : ℕ) → r < from + n → (t : Bool) → (ltb o from && waits o) ≡ t
        → ((held partner from n waits k r || eqb x r) || (t && eqb o r)) ≡ held partner from n waits (suc k) r
    unfolding held
    next-held r b t e = go (ltb r from) refl
      where
        named : eqb o r ≡ true → (ltb r from && waits r) ≡ t
        named q = let i = eqb-true o r q in rw (← i) e

        go : (u : Bool) → ltb r from ≡ u
            → ((cond u (waits r && (not (moved partner from n r) || moved partner from k r)) (ltb r x) || eqb x r) || (t && eqb o r))
            ≡ cond u (waits r && (not (moved partner from n r) || moved partner from (suc k) r)) (ltb r (from + suc k))
        go true p =
            let old = ltb-true r from p in
            rw (ne_eqb x r (λ i. omega arith), moved-suc partner from n pairs k r h b)
            (put_back (waits r) (not (moved partner from n r)) (moved partner from k r) (eqb o r) t (λ q. sym (rw p at (named q))))
        go false p = ap (λ (c : Bool). (ltb r x || eqb x r) || c) absent ∙ or-false (ltb r x || eqb x r) ∙ sym (ltb-suc r from k)
          where
            absent : (t && eqb o r) ≡ false
            absent = unless (t && eqb o r) (λ z.
                let two = both t (eqb o r) z in
                true≢false (sym two.0 ∙ sym (rw p at (named two.1))))

    module _ (before : ℕ → ℕ → Bool) (O : Orders before (from + n)) (room : ℕ) (fits : from + n ≤ room) (m : List ℕ)
        (Q : Queued (held partner from n waits k) before (from + n) m) where
      one_in : Queued (λ r. held partner from n waits k r || eqb x r) before (from + n) (put before room m x)
      one_in = put_is O Q x (omega arith) x-new room fits

      admit-is : Queued (held partner from n waits (suc k)) before (from + n) (admit partner from waits before room m x)
      unfolding admit is_older
      admit-is = go (ltb o from && waits o) refl
        where
          go : (t : Bool) → (ltb o from && waits o) ≡ t
              → Queued (held partner from n waits (suc k)) before (from + n) (cond t (put before room (put before room m x) o) (put before room m x))
          go true e =
              let b = ltb-true o from (both (ltb o from) (waits o) e).0 in
              let new : (held partner from n waits k o || eqb x o) ≡ false = rw (o-out b) (ne_eqb x o (λ i. omega arith)) in
              queued-alike (λ r j. next-held r j true e) (put_is O one_in o (omega arith) new room fits)
          go false e = queued-alike (λ r j. sym (or-false (held partner from n waits k r || eqb x r)) ∙ next-held r j false e) one_in

  -- ---- all of them

  admitted-is : (before : ℕ → ℕ → Bool) → Orders before (from + n) → (room : ℕ) → from + n ≤ room → (m : List ℕ)
      → Queued (held partner from n waits 0) before (from + n) m
      → (k : ℕ) → k ≤ n → Queued (held partner from n waits k) before (from + n) (admitted partner from waits before room k m)
  unfolding admitted
  admitted-is before O room fits m Q zero h = Q
  admitted-is before O room fits m Q (suc k) h =
      admit-is k h before O room fits (admitted partner from waits before room k m) (admitted-is before O room fits m Q k (omega arith))

pub requeue-is : (partner : ℕ → ℕ) (from n room : ℕ) (waits : ℕ → Bool) (before before' : ℕ → ℕ → Bool) (l : List ℕ) → Orders before from
    → Queued waits before from l → ((r : ℕ) → from ≤ r → r < from + n → waits r ≡ true)
    → ((r : ℕ) → r < from + n → (partner r < from + n) × (partner (partner r) ≡ r))
    → ((a b : ℕ) → a < from → b < from → partner a < from → partner b < from → before' a b ≡ before a b) → Orders before' (from + n) → from + n ≤ room
    → Queued waits before' (from + n) (requeued partner from waits before' room n l)
unfolding requeued
requeue-is partner from n room waits before before' l O Q fresh pairs same O' fits =
    let started = queued-alike (λ r b. none-held partner from n pairs waits r) (evicted-is partner from n pairs waits before before' l O Q same) in
    queued-alike (all_held partner from n pairs waits fresh)
    (admitted-is partner from n pairs waits before' O' room fits (evicted partner from waits n l) started n (omega arith))
