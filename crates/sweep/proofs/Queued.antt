-- The queue in the first n places of an array: what each of the code's steps makes of it is what the definitions say.
use mathlib.Core.Path.{◌≡◌, refl, sym, ◌∙◌}
use mathlib.Core.Bool.{Bool, true, false, cond}
use mathlib.Core.List.{List}
use Prim.Native.Nat.{ℕ, zero, suc, ◌+◌, ◌-◌, ◌/◌, ◌<◌, ◌≤◌}
use native.Mathlib.Numerals.{add-one}
use native.Mathlib.Omega.{arith}
use borrow.Author.Tests.{lt-ltb, le-ltb}
use lib.Dec.{eqb}
use lib.ListN.{length, take, get_or}
use lib.Seq.{length-take-le, get_or-take}
use Rattle.lists.specs.Lists.{slot, inserted, removed}
use Rattle.lists.proofs.Members.{remove-past, members-inserted, members-removed}
use Rattle.waiting.specs.Queue.{leads, halving, place, put, without, is_older, evicted, admit, admitted, requeued}

-- ---- a place found by halving

-- so many more halvings from lo to hi find the place
pub record Halved (before : ℕ → ℕ → Bool) (s : List ℕ) (n x lo hi : ℕ) : Type 0 where
  pub more : ℕ
  pub enough : hi ≤ lo + more
  pub finds : halving before more (take n s) x lo hi ≡ place before (take n s) x

module _ (before : ℕ → ℕ → Bool) (s : List ℕ) (n x : ℕ) where
  pub halved-start : n ≤ length s → Halved before s n x 0 n
  unfolding place
  halved-start h =
      let q = length-take-le n s h in
      record { more = length (take n s); enough = omega arith; finds = rw q }

  -- one halving: to its lower half, or to its upper
  module _ (lo hi : ℕ) (room : lo < hi) (fit : hi ≤ n) {b : Bool} (hb : b ≡ leads before (get_or s ((lo + hi) / 2) 0) x) where
    test : b ≡ leads before (get_or (take n s) ((lo + hi) / 2) 0) x
    test = rw (get_or-take n s ((lo + hi) / 2) 0 (omega arith)) hb

    lower : (k : ℕ) → hi ≤ lo + k → halving before k (take n s) x lo hi ≡ place before (take n s) x → b ≡ true
        → Halved before s n x lo ((lo + hi) / 2)
    unfolding halving
    lower zero e f t = absurd (omega arith)
    lower (suc k) e f t = record { more = k; enough = omega arith; finds = rw (lt-ltb lo hi room, ← test, t) at f }

    upper : (k : ℕ) → hi ≤ lo + k → halving before k (take n s) x lo hi ≡ place before (take n s) x → b ≡ false
        → Halved before s n x ((lo + hi) / 2 + 1) hi
    unfolding halving
    upper zero e f t = absurd (omega arith)
    upper (suc k) e f t = record { more = k; enough = omega arith; finds = rw (lt-ltb lo hi room, ← test, t) at f }

    pub halved-lower : Halved before s n x lo hi → b ≡ true → Halved before s n x lo ((lo + hi) / 2)
    halved-lower h t = lower h.more h.enough h.finds t

    pub halved-upper : Halved before s n x lo hi → b ≡ false → Halved before s n x ((lo + hi) / 2 + 1) hi
    halved-upper h t = upper h.more h.enough h.finds t

  halving-end : (k lo hi : ℕ) → hi ≤ lo → halving before k (take n s) x lo hi ≡ lo
  unfolding halving
  halving-end zero lo hi e = refl
  halving-end (suc k) lo hi e = rw (le-ltb lo hi e)

  pub halved-end : (lo hi : ℕ) → hi ≤ lo → Halved before s n x lo hi → lo ≡ place before (take n s) x
  halved-end lo hi e h = sym (halving-end h.more lo hi e) ∙ h.finds

  -- ---- a number put in

  pub put-none : n ≤ length s → length s ≤ n → take n s ≡ put before (length s) (take n s) x
  unfolding put
  put-none h e = rw (length-take-le n s h, le-ltb n (length s) e)

  pub put_some : n < length s → (at : ℕ) → at ≡ place before (take n s) x → at ≤ n → (s' : List ℕ) → s' ≡ inserted s n at x
      → take (n + 1) s' ≡ put before (length s) (take n s) x
  unfolding put
  put_some h at e w s' f =
      rw (length-take-le n s (omega arith), lt-ltb n (length s) h, ← e, f, add-one) (members-inserted s n at x w h)

-- ---- a number taken out

module _ (s : List ℕ) (n o at : ℕ) (fit : n ≤ length s) (e : at ≡ slot (λ m. eqb m o) (take n s)) where
  pub out_none : n ≤ at → take n s ≡ without (take n s) o
  unfolding without
  out_none h = sym (rw (← e) (remove-past (take n s) at (rw (length-take-le n s fit) h)))

  pub out_some : at < n → (s' : List ℕ) → s' ≡ removed s n at → take (n - 1) s' ≡ without (take n s) o
  unfolding without
  out_some h s' f = rw (← e, f) (members-removed s n at h fit)

-- ---- the new records, one by one

-- none yet
module _ (partner : ℕ → ℕ) (from : ℕ) (waits : ℕ → Bool) (l : List ℕ) where
  none_yet : from - from ≡ 0
  none_yet = omega arith

  pub evicted-none : l ≡ evicted partner from waits (from - from) l
  unfolding evicted
  evicted-none = rw none_yet

  pub admitted-none : (before : ℕ → ℕ → Bool) (room : ℕ) → l ≡ admitted partner from waits before room (from - from) l
  unfolding admitted
  admitted-none before room = rw none_yet

-- the step from record r to the next
module _ (from r : ℕ) (h : from ≤ r) where
  count-on : r + 1 - from ≡ suc (r - from)
  count-on = omega arith

  count-back : from + (r - from) ≡ r
  count-back = omega arith

  module _ (partner : ℕ → ℕ) (waits : ℕ → Bool) (l m m' : List ℕ) where
    pub evicted-next : m ≡ evicted partner from waits (r - from) l → (o : ℕ) → o ≡ partner r
        → m' ≡ cond (is_older from waits o) (without m o) m → m' ≡ evicted partner from waits (r + 1 - from) l
    unfolding evicted
    evicted-next e o ho f = rw (count-on, count-back, ← e, ← ho) f

    pub admitted-next : (before : ℕ → ℕ → Bool) (room now : ℕ) → now ≡ room
        → m ≡ admitted partner from waits before room (r - from) l → m' ≡ admit partner from waits before now m r
        → m' ≡ admitted partner from waits before room (r + 1 - from) l
    unfolding admitted
    admitted-next before room now k e f = rw (count-on, count-back, ← e, ← k) f

-- one record, with its partner if that is older and waits
module _ (partner : ℕ → ℕ) (from : ℕ) (waits : ℕ → Bool) (before : ℕ → ℕ → Bool) (room : ℕ) (l m : List ℕ) (r o : ℕ) (ho : o ≡ partner r) (hm : m ≡ put before room l r) {old : Bool} (hold : old ≡ is_older from waits o) where
  pub admit-old : old ≡ true → (m' : List ℕ) (now : ℕ) → now ≡ room → m' ≡ put before now m o → m' ≡ admit partner from waits before room l r
  unfolding admit
  admit-old t m' now k e = rw (← ho, ← hold, t, ← hm, ← k) e

  pub admit-alone : old ≡ false → m ≡ admit partner from waits before room l r
  unfolding admit
  admit-alone f = rw (← ho, ← hold, f) hm

-- ---- all of them

pub requeued-is : (partner : ℕ → ℕ) (from : ℕ) (waits : ℕ → Bool) (before : ℕ → ℕ → Bool) (room n : ℕ) (l m m' : List ℕ) (now : ℕ) → now ≡ room
    → m ≡ evicted partner from waits n l → m' ≡ admitted partner from waits before now n m → m' ≡ requeued partner from waits before room n l
unfolding requeued
requeued-is partner from waits before room n l m m' now k e f = rw (← e, ← k) f
