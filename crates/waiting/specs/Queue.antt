-- The queue of waiting events, the next one last: how the code finds what `first` and `rivalled` say without looking at every place. Its members are
-- in the order of taking, so that a new one's place is found by halving; a division changes the keys of few, and those are put in anew.
use Rattle.std.specs.Prelude.{◌≡◌, Bool, true, false, not, cond, ◌&&◌, ◌||◌, List, [], ◌∷◌, ℕ, zero, suc, ◌+◌, ◌/◌, length, get_or, eqb, ltb, None, Option, Some}
use Rattle.lists.specs.Lists.{slot, insert_at, remove_at}

-- of two that wait, a is taken before b: on a tie the lower number
unfoldable pub leads : (ℕ → ℕ → Bool) → ℕ → ℕ → Bool
leads before a b = cond (ltb a b) (before a b) (not (before b a))

-- the next but one, if there is one, ties with e
unfoldable pub ties_with : (ℕ → ℕ → Bool) → ℕ → Option ℕ → Bool
ties_with before e None = false
ties_with before e (Some r) = before e r && before r e

-- ---- what a queue is

unfoldable pub has : List ℕ → ℕ → Bool
has [] r = false
has (x ∷ l) r = eqb x r || has l r

-- x is led by every member
unfoldable pub Led : (ℕ → ℕ → Bool) → ℕ → List ℕ → Type 0
Led before x [] = Unit {0}
Led before x (y ∷ l) = (leads before y x ≡ true) × Led before x l

-- each member is led by all behind it
unfoldable pub Ordered : (ℕ → ℕ → Bool) → List ℕ → Type 0
Ordered before [] = Unit {0}
Ordered before (x ∷ l) = Led before x l × Ordered before l

-- of the numbers below n
pub record Queued (waits : ℕ → Bool) (before : ℕ → ℕ → Bool) (n : ℕ) (l : List ℕ) : Type 0 where
  pub members : (r : ℕ) → has l r ≡ (ltb r n && waits r)
  pub ordered : Ordered before l

-- ---- a number put in, and one taken out

module _ (before : ℕ → ℕ → Bool) where
  -- the first member from lo on that leads x, or hi; by at most k halvings
  unfoldable pub halving : ℕ → List ℕ → ℕ → ℕ → ℕ → ℕ
  halving zero l x lo hi = lo
  halving (suc k) l x lo hi =
      let m = (lo + hi) / 2 in
      cond (ltb lo hi) (cond (leads before (get_or l m 0) x) (halving k l x lo m) (halving k l x (m + 1) hi)) lo

  unfoldable pub place : List ℕ → ℕ → ℕ
  place l x = halving (length l) l x 0 (length l)

  -- where there is room for one more
  unfoldable pub put : ℕ → List ℕ → ℕ → List ℕ
  put room l x = cond (ltb (length l) room) (insert_at l (place l x) x) l

unfoldable pub without : List ℕ → ℕ → List ℕ
without l o = remove_at l (slot (λ m. eqb m o) l)

-- ---- n new records, from number `from` on: their older partners have other keys than before

-- number o is older and waits, and so is in the queue
unfoldable pub is_older : ℕ → (ℕ → Bool) → ℕ → Bool
is_older from waits o = ltb o from && waits o

module _ (partner : ℕ → ℕ) (from : ℕ) (waits : ℕ → Bool) where
  -- the older partners of the new records are taken out
  unfoldable pub evicted : ℕ → List ℕ → List ℕ
  evicted zero l = l
  evicted (suc n) l = let o = partner (from + n) in cond (is_older from waits o) (without (evicted n l) o) (evicted n l)

  module _ (before : ℕ → ℕ → Bool) (room : ℕ) where
    -- one new record is put in, and its older partner again
    unfoldable pub admit : List ℕ → ℕ → List ℕ
    admit l r =
        let o = partner r in
        let m = put before room l r in
        cond (is_older from waits o) (put before room m o) m

    unfoldable pub admitted : ℕ → List ℕ → List ℕ
    admitted zero l = l
    admitted (suc n) l = admit (admitted n l) (from + n)

    unfoldable pub requeued : ℕ → List ℕ → List ℕ
    requeued n l = admitted n (evicted n l)
