-- next_up is the least number above. Patterns counted through zero, from the most negative number up, are ranks: next_up goes to the next rank, and a
-- number's place grows with its rank. So nothing lies between a number and its next_up.
use mathlib.Core.Path.{◌≡◌, refl, sym, ap, ◌∙◌, subst}
use mathlib.Core.Bool.{Bool, true, false, not, cond, true≢false}
use Prim.Native.Nat.{ℕ, ◌+◌, ◌-◌, ◌%◌, ◌^◌, ◌≤◌, ◌<◌}
use native.Mathlib.Nat.{lt_of_not-le}
use native.Mathlib.Omega.{arith}
use borrow.Author.Tests.{ltb-true, ltb-false, eqb-true, eqb-false, lt-ltb, le-ltb, le-leb, lt-leb}
use lib.Dec.{T, leb, ltb, eqb}
use lib.IntN.{pos}
use lib.Ieee.{Float, nan, inf, fin, binary64, is_nan, fits, lt, le, neg, of_bits, to_bits}
use lib.Ieee.Bits.{of_bits-to_bits, to_bits-of_bits, to_bits-lt}
use Rattle.std.specs.Float.{next_up as library_next_up, next_up_by_bits}
use Rattle.std.proofs.lemmas.Bool.Decides.{nat_tests}
use Rattle.numbers.specs.Binary64.{Finite, not_finite}
use Rattle.numbers.specs.Exact.{size, negative}
use Rattle.numbers.specs.Next.{largest, least_positive, next_pattern, next_up}
use Rattle.numbers.proofs.Place.{shift, place, size-most, lt-place, le-place}
use Rattle.numbers.proofs.Patterns.{size_of, infinite, size-grows, size-keeps, size_none, pattern-finite, pattern-size, finite-pattern}

-- ---- ranks: both zeros have 2^63
unfoldable rank : ℕ → ℕ
rank b = cond (ltb b (2 ^ 63)) (2 ^ 63 + b) (2 ^ 64 - b)

rank-low : (b : ℕ) → b < 2 ^ 63 → rank b ≡ 2 ^ 63 + b
unfolding rank
rank-low b h = rw (lt-ltb b (2 ^ 63) h)

rank-high : (b : ℕ) → 2 ^ 63 ≤ b → rank b ≡ 2 ^ 64 - b
unfolding rank
rank-high b h = rw (le-ltb b (2 ^ 63) h)

-- the next pattern's three cases: above zero, minus zero, below zero
by_sign : (Q : ℕ → Type 0) (b : ℕ) → (b < 2 ^ 63 → Q (b + 1)) → (b ≡ 2 ^ 63 → Q 1) → (2 ^ 63 < b → Q (b - 1)) → Q (next_pattern b)
unfolding next_pattern
by_sign Q b over at under = go (ltb b (2 ^ 63)) refl (eqb b (2 ^ 63)) refl
  where
    go : (u : Bool) → ltb b (2 ^ 63) ≡ u → (v : Bool) → eqb b (2 ^ 63) ≡ v → Q (cond u (b + 1) (cond v 1 (b - 1)))
    go true p v q = over (ltb-true b (2 ^ 63) p)
    go false p true q = at (eqb-true b (2 ^ 63) q)
    go false p false q =
        let l = ltb-false b (2 ^ 63) p in
        under (lt_of_not-le (λ (k : b ≤ 2 ^ 63). eqb-false b (2 ^ 63) q (omega arith)))

module _ (b : ℕ) (word : b < 2 ^ 64) (low : b % 2 ^ 63 < infinite) where
  next-rank : rank (next_pattern b) ≡ rank b + 1
  next-rank =
      by_sign (λ n. rank n ≡ rank b + 1) b
      (λ l. rw (rank-low (b + 1) (omega arith), rank-low b l) (omega arith))
      (λ e. rw (rank-low 1 (omega arith), rank-high b (omega arith)) (omega arith))
      (λ l. rw (rank-high (b - 1) (omega arith), rank-high b (omega arith)) (omega arith))

  next_word : next_pattern b < 2 ^ 64
  next_word = by_sign (λ n. n < 2 ^ 64) b (λ l. omega arith) (λ e. omega arith) (λ l. omega arith)

  -- below infinity again but for the largest
  next_low : (b ≡ infinite - 1 → ⊥) → next_pattern b % 2 ^ 63 < infinite
  next_low n =
      by_sign (λ k. k % 2 ^ 63 < infinite) b
      (λ l. lt_of_not-le (λ (k : infinite ≤ (b + 1) % 2 ^ 63). n (omega arith)))
      (λ e. omega arith)
      (λ l. omega arith)

-- ---- the place of a rank: at each rank one of the two sizes is none
unfoldable height : ℕ → ℕ
height r = shift + size_of (r - 2 ^ 63) - size_of (2 ^ 63 - r)

height-keeps : (r q : ℕ) → r ≤ q → height r ≤ height q
unfolding height
height-keeps r q h =
    let over = size-keeps (r - 2 ^ 63) (q - 2 ^ 63) (omega arith) in
    let under = size-keeps (2 ^ 63 - q) (2 ^ 63 - r) (omega arith) in
    omega arith

height-grows : (r q : ℕ) → r < q → size_of (2 ^ 63 - r) ≤ shift → height r < height q
unfolding height
height-grows r q h bound = go (ltb r (2 ^ 63)) refl
  where
    go : (u : Bool) → ltb r (2 ^ 63) ≡ u → shift + size_of (r - 2 ^ 63) - size_of (2 ^ 63 - r) < shift + size_of (q - 2 ^ 63) - size_of (2 ^ 63 - q)
    go true p =
        let l = ltb-true r (2 ^ 63) p in
        let over = size-keeps (r - 2 ^ 63) (q - 2 ^ 63) (omega arith) in
        let under = size-grows (2 ^ 63 - q) (2 ^ 63 - r) (omega arith) in
        omega arith
    go false p =
        let l = ltb-false r (2 ^ 63) p in
        let over = size-grows (r - 2 ^ 63) (q - 2 ^ 63) (omega arith) in
        let under = size-keeps (2 ^ 63 - q) (2 ^ 63 - r) (omega arith) in
        omega arith

-- ---- a finite number by its rank
abbrev rank_of : Float → ℕ
rank_of x = rank (to_bits binary64 x)

module _ (x : Float) (h : Finite x) where
  abbrev bits : ℕ
  bits = to_bits binary64 x

  word : bits < 2 ^ 64
  word = to_bits-lt binary64 x h.held

  by-pattern : (size x ≡ size_of (bits % 2 ^ 63)) × (negative x ≡ leb (2 ^ 63) bits)
  by-pattern =
      let back = of_bits-to_bits binary64 x h.held in
      let own = pattern-size bits (finite-pattern x h) in
      (sym (ap size back) ∙ own.0, sym (ap negative back) ∙ own.1)

  place-height : place x ≡ height (rank_of x)
  unfolding place height
  place-height = rw (by-pattern.0, by-pattern.1) (go (ltb bits (2 ^ 63)) refl)
    where
      go : (u : Bool) → ltb bits (2 ^ 63) ≡ u → cond (leb (2 ^ 63) bits) (shift - size_of (bits % 2 ^ 63)) (shift + size_of (bits % 2 ^ 63)) ≡ shift + size_of (rank bits - 2 ^ 63) - size_of (2 ^ 63 - rank bits)
      go true p =
          let l = ltb-true bits (2 ^ 63) p in
          let own : bits % 2 ^ 63 ≡ bits = omega arith in
          let over : 2 ^ 63 + bits - 2 ^ 63 ≡ bits = omega arith in
          let under : 2 ^ 63 - (2 ^ 63 + bits) ≡ 0 = omega arith in
          rw (rank-low bits l, lt-leb (2 ^ 63) bits l, own, over, under, size_none) (omega arith)
      go false p =
          let l = ltb-false bits (2 ^ 63) p in
          let w = word in
          let own : bits % 2 ^ 63 ≡ bits - 2 ^ 63 = omega arith in
          let over : 2 ^ 64 - bits - 2 ^ 63 ≡ 0 = omega arith in
          let under : 2 ^ 63 - (2 ^ 64 - bits) ≡ bits - 2 ^ 63 = omega arith in
          rw (rank-high bits l, le-leb (2 ^ 63) bits l, own, over, under, size_none) (omega arith)

  -- what lies below zero is no larger than the number
  small : size_of (2 ^ 63 - rank_of x) ≤ shift
  small = go (ltb bits (2 ^ 63)) refl
    where
      go : (u : Bool) → ltb bits (2 ^ 63) ≡ u → size_of (2 ^ 63 - rank bits) ≤ shift
      go true p =
          let l = ltb-true bits (2 ^ 63) p in
          let under : 2 ^ 63 - (2 ^ 63 + bits) ≡ 0 = omega arith in
          rw (rank-low bits l, under, size_none) (omega arith)
      go false p =
          let l = ltb-false bits (2 ^ 63) p in
          let w = word in
          let under : 2 ^ 63 - (2 ^ 64 - bits) ≡ bits % 2 ^ 63 = omega arith in
          rw (rank-high bits l, under, ← by-pattern.0) (size-most x h)

no_nan : (x : Float) → Finite x → T (not (is_nan x))
unfolding not_finite is_nan
no_nan nan h = absurd (true≢false h.finite)
no_nan (inf s) h = tt
no_nan (fin s m e) h = tt

next-is : (x : Float) → Finite x → next_up x ≡ of_bits binary64 (next_pattern (to_bits binary64 x))
unfolding next_up not_finite
next-is nan h = absurd (true≢false h.finite)
next-is (inf s) h = absurd (true≢false h.finite)
next-is (fin s m e) h = refl

module _ (x : Float) (h : Finite x) where
  next-finite : (to_bits binary64 x ≡ infinite - 1 → ⊥) → Finite (next_up x)
  next-finite n = rw (next-is x h) (pattern-finite (next_pattern (bits x h)) (next_low (bits x h) (word x h) (finite-pattern x h) n))

  -- one rank up
  next-rank-is : Finite (next_up x) → rank_of (next_up x) ≡ rank_of x + 1
  next-rank-is k =
      let pattern = next_pattern (bits x h) in
      let no : T (not (is_nan (of_bits binary64 pattern))) = rw (next-is x h) at (no_nan (next_up x) k) in
      let back : to_bits binary64 (next_up x) ≡ pattern = ap (to_bits binary64) (next-is x h) ∙ to_bits-of_bits binary64 pattern (next_word (bits x h) (word x h) (finite-pattern x h)) no in
      ap rank back ∙ next-rank (bits x h) (word x h) (finite-pattern x h)

  pub above : Finite (next_up x) → lt x (next_up x) ≡ true
  above k =
      let up : height (rank_of x) < height (rank_of x + 1) = height-grows (rank_of x) (rank_of x + 1) (omega arith) (small x h) in
      lt-place x (next_up x) h k ∙ rw (place-height x h, place-height (next_up x) k, next-rank-is k) (lt-ltb _ _ up)

  least : Finite (next_up x) → (y : Float) → Finite y → lt x y ≡ true → le (next_up x) y ≡ true
  least k y j e =
      let places : place x < place y = ltb-true (place x) (place y) (sym (lt-place x y h j) ∙ e) in
      let heights : height (rank_of x) < height (rank_of y) = rw (place-height x h, place-height y j) at places in
      let ranks : rank_of x < rank_of y = lt_of_not-le (λ (q : rank_of y ≤ rank_of x). let down = height-keeps (rank_of y) (rank_of x) q in omega arith) in
      le-place (next_up x) y k j ∙ rw (place-height (next_up x) k, place-height y j, next-rank-is k) (le-leb _ _ (height-keeps (rank_of x + 1) (rank_of y) (omega arith)))

not-largest : (x : Float) → Finite x → lt x largest ≡ true → to_bits binary64 x ≡ infinite - 1 → ⊥
not-largest x h l e =
    let one : largest ≡ x = sym (ap (of_bits binary64) e) ∙ of_bits-to_bits binary64 x h.held in
    let own : lt x x ≡ true = subst (λ (y : Float). lt x y ≡ true) one l in
    true≢false (sym own ∙ lt-place x x h h ∙ le-ltb (place x) (place x) (omega arith))

-- ---- the library's next_up is the definition's: it asks first whether the size is zero, and then for the sign
step : (x : Float) (b : ℕ) → b < 2 ^ 64 → b % 2 ^ 63 < infinite → next_up_by_bits binary64 x b ≡ of_bits binary64 (next_pattern b)
step x b h l =
    by_sign (λ n. next_up_by_bits binary64 x b ≡ of_bits binary64 n) b
    (λ k. grind (arith, nat_tests))
    (λ k. grind (arith, nat_tests))
    (λ k. grind (arith, nat_tests))

pub next_up_is : (x : Float) → fits binary64 x ≡ true → next_up x ≡ library_next_up binary64 x
unfolding next_up of_bits to_bits is_nan neg not_finite
next_up_is nan h = refl
next_up_is (inf true) h = refl
next_up_is (inf false) h = refl
next_up_is (fin s m e) h =
    let held : T (fits binary64 (fin s m e)) = subst T (sym h) tt in
    let f : Finite (fin s m e) = record { held = held; finite = refl } in
    sym (step (fin s m e) (to_bits binary64 (fin s m e)) (to_bits-lt binary64 (fin s m e) held) (finite-pattern (fin s m e) f))

-- ---- what IEEE 754 says of next_up

-- r is the least number that compares greater than x
pub record LeastAbove (x r : Float) : Type 0 where
  pub finite : Finite r
  pub above : lt x r ≡ true
  pub least : (y : Float) → Finite y → lt x y ≡ true → le r y ≡ true

pub next_up_lem : (x : Float) → Finite x → lt x largest ≡ true → LeastAbove x (next_up x)
next_up_lem x h l =
    let k = next-finite x h (not-largest x h l) in
    record { finite = k; above = above x h k; least = least x h k }

-- the numbers named in the standard's text: either zero, the negative number of least size, the largest, the infinities, not-a-number
pub record Named : Type 0 where
  pub after-zero : next_up (fin false 0 (pos 0)) ≡ least_positive
  pub after-minus-zero : next_up (fin true 0 (pos 0)) ≡ least_positive
  pub to-minus-zero : next_up (neg least_positive) ≡ fin true 0 (pos 0)
  pub after-largest : next_up largest ≡ inf false
  pub after-infinity : next_up (inf false) ≡ inf false
  pub after-minus-infinity : next_up (inf true) ≡ neg largest
  pub after-not-a-number : next_up nan ≡ nan

pub named : Named
unfolding next_up next_pattern of_bits to_bits neg
named =
    record {
      after-zero = refl;
      after-minus-zero = refl;
      to-minus-zero = refl;
      after-largest = refl;
      after-infinity = refl;
      after-minus-infinity = refl;
      after-not-a-number = refl;
    }
