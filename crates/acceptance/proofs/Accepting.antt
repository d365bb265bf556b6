-- With the tally of the list, in a pool within its limit, the tests of the code are those of connection.
use Rattle.std.proofs.Common.{Err, Ok}
use Rattle.refusals.specs.declared.Reason.TheVariants as Reason
use Rattle.refusals.specs.Refusals.{Verdict}
use mathlib.Core.Path.{◌≡◌, refl, sym, ap, ◌∙◌, fun_ext}
use mathlib.Core.Bool.{Bool, true, false, not, ◌||◌, or-true, or_comm}
use mathlib.Core.List.{List, Memᴰ}
use Prim.Native.Nat.{ℕ, zero, suc, ◌<◌, ◌≤◌}
use native.Mathlib.Omega.{arith}
use native.Mathlib.Nat.{suc-ne-zero}
use borrow.Author.Tests.{ltb-true, ltb-false, lt-ltb, le-ltb, ne_eqb}
use lib.Dec.{eqb, ltb}
use lib.ListN.{length}
use Rattle.events.specs.Binary64.{at_binary64}
use Rattle.events.specs.Pool.{Pool, size, row_at}
use Rattle.checks.specs.Checks.{max_events, size_refusal, outside, missized, mistaken, and_then, sized}
use Rattle.checks.proofs.Passed.{sized-passed}
use Rattle.checks.proofs.Unstruck.{neither, inside}
use Rattle.contours.specs.Accept.{listed, twice, misplaced, half_listed, told_lowest, list_sized, accept}
use Rattle.contours.proofs.Accepted.{told_none, listed_in}
use Rattle.acceptance.specs.Seen.{zeros, seen_at, seen_in, tallied}
use Rattle.acceptance.specs.Flaws.{reason_of, flawed, misplaced_seen, half_seen}
use Rattle.acceptance.specs.OnPool.{accept_pool, told_unfit, told_flaw, told_room, accept_seen, accept_sized}
use Rattle.acceptance.proofs.Tallying.{listed-seen, twice-seen, tallied-seen, unseen-beyond}
use Rattle.acceptance.proofs.Chain.{where-passed}

mistaken-inside : (p : Pool) (r : ℕ) → mistaken at_binary64 (row_at p) (size p) r ≡ false → r < size p
unfolding mistaken
mistaken-inside p r e = inside (size p) r (neither _ _ e).0

outside-mistaken : (p : Pool) (r : ℕ) → size p ≤ r → mistaken at_binary64 (row_at p) (size p) r ≡ true
unfolding mistaken outside
outside-mistaken p r h = rw (le-ltb r (size p) h)

none_seen : (n : ℕ) → eqb n 0 ≡ not (ltb 0 n)
none_seen zero = refl
none_seen (suc n) = rw (lt-ltb 0 (suc n) (omega arith), ne_eqb (suc n) 0 (suc-ne-zero n))

-- k: the places of the tally, at least one for each record of the pool
module _ (p : Pool) (list : List ℕ) (k : ℕ) (few : size p ≤ k) where
  abbrev tally : List ℕ
  tally = tallied (zeros k) list

  misplaced-is : (r : ℕ) → misplaced_seen p tally r ≡ misplaced at_binary64 (row_at p) (size p) list r
  unfolding misplaced_seen misplaced
  misplaced-is r = by (ltb r k) refl
    where
      by : (t : Bool) → ltb r k ≡ t
          → (mistaken at_binary64 (row_at p) (size p) r || ltb 1 (seen_at tally r)) ≡ (twice list r || mistaken at_binary64 (row_at p) (size p) r)
      by true e = rw (tallied-seen k list r (ltb-true r k e), twice-seen) (or_comm (mistaken at_binary64 (row_at p) (size p) r) (ltb 1 (seen_in list r)))
      by false e = rw (outside-mistaken p r (omega (arith, ltb-false r k e))) (sym (or-true (twice list r)))

  -- where every listed record is of the pool
  module _ (within : (r : ℕ) → Memᴰ r list → r < k) where
    unlisted-beyond : (q : ℕ) → k ≤ q → listed list q ≡ false
    unlisted-beyond q h = by (listed list q) refl
      where
        by : (t : Bool) → listed list q ≡ t → t ≡ false
        by true e = absurd (omega (arith, within q (listed_in list q e)))
        by false e = refl

    unseen-is : (q : ℕ) → eqb (seen_at tally q) 0 ≡ not (listed list q)
    unseen-is q = by (ltb q k) refl
      where
        by : (t : Bool) → ltb q k ≡ t → eqb (seen_at tally q) 0 ≡ not (listed list q)
        by true e = rw (tallied-seen k list q (ltb-true q k e), listed-seen) (none_seen (seen_in list q))
        by false e = rw (unseen-beyond k list q (ltb-false q k e), unlisted-beyond q (ltb-false q k e))

    half_is : (r : ℕ) → half_seen p tally r ≡ half_listed at_binary64 (row_at p) (size p) list r
    unfolding half_seen half_listed
    half_is r = rw (unseen-is (row_at p r).partner)

  all-within : told_lowest Reason.Link (misplaced at_binary64 (row_at p) (size p) list) list ≡ Ok tt → (r : ℕ) → Memᴰ r list → r < k
  unfolding misplaced
  all-within e r m =
      let own = neither (twice list r) (mistaken at_binary64 (row_at p) (size p) r) (told_none Reason.Link _ list e r m) in
      omega (arith, mistaken-inside p r own.1)

  checks-are : (corners contours holes : ℕ) → accept_seen p tally list corners contours holes ≡ accept_sized p list corners contours holes
  unfolding accept_seen accept_sized told_flaw reason_of flawed
  checks-are corners contours holes =
      rw
      (fun_ext misplaced-is)
      (ap
      (and_then (told_unfit p list))
      (where-passed _ _ _ (λ e. ap (λ test. and_then (told_lowest Reason.HalfEdge test list) (told_room p list corners contours holes)) (fun_ext (half_is (all-within e))))))

size-most : (p : Pool) → size p ≤ length p.points
unfolding size
size-most p = omega arith

pub within-limit : (points marks : ℕ) {t : Bool} → t ≡ missized points marks → t ≡ false → points ≤ max_events
unfolding sized
within-limit points marks sizes e = (sized-passed points marks (rw (← sizes, e))).few

-- ---- the whole, for any room

module _ (p : Pool) (list : List ℕ) (corners contours holes : ℕ) where
  -- 1 for the list
  pub list-refused : max_events < length list → Err (record { reason = Reason.Size; place = 0 }) ≡ accept_pool p list corners contours holes
  unfolding accept_pool accept list_sized and_then
  list-refused l = rw (lt-ltb max_events (length list) l)

  -- the rest by the tally
  pub by-tally : {none seen : List ℕ} {answer : Verdict} → (length p.points ≤ length none) × (none ≡ zeros (length none)) → seen ≡ tallied none list
      → answer ≡ accept_seen p seen list corners contours holes → answer ≡ accept_sized p list corners contours holes
  by-tally {none} z s a =
      a
      ∙ ap (λ (l : List ℕ). accept_seen p l list corners contours holes) (s ∙ ap (λ (l : List ℕ). tallied l list) z.1)
      ∙ checks-are p list (length none) (omega (arith, size-most p, z.0)) corners contours holes

  module _ (short : length list ≤ max_events) {t : Bool} (sizes : t ≡ missized (length p.points) (length p.marks)) where
    -- 1 for the pool
    pub pool-refused : t ≡ true → Err size_refusal ≡ accept_pool p list corners contours holes
    unfolding accept_pool accept list_sized sized and_then
    pool-refused e = rw (le-ltb max_events (length list) short, ← sizes, e)

    pub accepts : {answer : Verdict} → t ≡ false → answer ≡ accept_sized p list corners contours holes → answer ≡ accept_pool p list corners contours holes
    unfolding accept_pool accept accept_sized told_unfit told_room list_sized sized and_then
    accepts e a = a ∙ rw (le-ltb max_events (length list) short, ← sizes, e)
