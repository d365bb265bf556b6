-- What a run of words tells: a word's value stands at its pattern's size from the middle, up or down by its sign, and sizes grow with patterns.
use Rattle.std.proofs.Common.{◌≡◌, ℕ, ◌+◌, ◌-◌, ◌%◌, ◌^◌, ◌<◌, ◌≤◌, Bool, true, false, ◌&&◌, ltb, sym, refl, ap, ◌∙◌, true≢false, lt_of_not-le, arith, ltb-true, le-ltb, lt-ltb, le-leb}
use mathlib.Core.Bool.{false≢true}
use native.Mathlib.Decide.{dec_lt}
use borrow.Author.Tests.{lt-leb}
use Rattle.numbers.specs.declared.Point.{Point}
use Rattle.numbers.specs.Next.{minus_zero}
use Rattle.numbers.specs.Words.{value}
use Rattle.numbers.proofs.Place.{place, shift, lt-place, place_is}
use Rattle.numbers.proofs.Patterns.{size_of, size-grows, size-keeps, size_none, pattern-finite, pattern-size}
use Rattle.numbers.proofs.Values.{value-below, value-above, value-finite}
use Rattle.events.specs.Binary64.{at_binary64}
use Rattle.events.specs.Runs.{infinity, in_run, above_zero, below_zero, lower_words, at_most_words, higher_words}

abbrev pub Word : ℕ → Type 0
Word w = w < 2 ^ 64

-- the difference that wraps is the definition's
pub wraps : (a b r : ℕ) → Word b → Word r → (r + b) % 2 ^ 64 ≡ a → r ≡ (a + (2 ^ 64 - b)) % 2 ^ 64
wraps a b r h k e = omega arith

-- ---- where a word's value stands
abbrev place_of : ℕ → ℕ
place_of w = place (value w)

plus : (w : ℕ) → w < infinity → place_of w ≡ shift + size_of w
plus w h =
    let own : w % 2 ^ 63 ≡ w = omega arith in
    let low : w % 2 ^ 63 < infinity = omega arith in
    let p = pattern-size w low in
    let here = rw (p.0, p.1, lt-leb (2 ^ 63) w (omega arith), own) at (place_is _ (pattern-finite w low)) in
    rw (value-below w low) (omega (arith, here))

minus : (w : ℕ) → minus_zero ≤ w → w < minus_zero + infinity → place_of w + size_of (w - minus_zero) ≡ shift
minus w l h =
    let own : w % 2 ^ 63 ≡ w - minus_zero = omega arith in
    let low : w % 2 ^ 63 < infinity = omega arith in
    let p = pattern-size w low in
    let here = rw (p.0, p.1, le-leb (2 ^ 63) w l, own) at (place_is _ (pattern-finite w low)) in
    rw (value-below w low) (omega (arith, here))

-- not finite
other : (w : ℕ) → infinity ≤ w % 2 ^ 63 → place_of w ≡ shift
other w h = ap place (value-above w h ∙ sym (value-below 0 (omega arith))) ∙ omega (arith, plus 0 (omega arith), size_none)

not-below : (w : ℕ) → w < minus_zero → shift ≤ place_of w
not-below w h = go (dec_lt w infinity)
  where
    go : Dec (w < infinity) → shift ≤ place_of w
    go (yes p) = omega (arith, plus w p)
    go (no p) = omega (arith, other w (omega arith))

not-above : (w : ℕ) → Word w → minus_zero ≤ w → place_of w ≤ shift
not-above w k h = go (dec_lt w (minus_zero + infinity))
  where
    go : Dec (w < minus_zero + infinity) → place_of w ≤ shift
    go (yes p) = omega (arith, minus w h p)
    go (no p) = omega (arith, other w (omega arith))

some : (n : ℕ) → 0 < n → 0 < size_of n
some n h = omega (arith, size-grows 0 n h, size_none)

-- ---- the three kinds of word that runs are made for
between : (a v b : ℕ) → (ltb a v && ltb v b) ≡ true → (a < v) × (v < b)
between a v b e = go (ltb a v) refl e
  where
    go : (t : Bool) → ltb a v ≡ t → (t && ltb v b) ≡ true → (a < v) × (v < b)
    go true p q = (ltb-true a v p, ltb-true v b q)
    go false p q = absurd (false≢true q)

outside : (a v b : ℕ) → (ltb a v && ltb v b) ≡ false → a < v → v < b → ⊥
outside a v b e p q = true≢false (rw (lt-ltb a v p, lt-ltb v b q) at e)

pub above_zero_lem : (v : ℕ) → above_zero v ≡ true → (0 < v) × (v < infinity)
unfolding above_zero
above_zero_lem v e = between 0 v infinity e

pub below-zero : (v : ℕ) → below_zero v ≡ true → (minus_zero < v) × (v < minus_zero + infinity)
unfolding below_zero
below-zero v e = between minus_zero v (minus_zero + infinity) e

at_zero : (v : ℕ) → Word v → above_zero v ≡ false → below_zero v ≡ false → place_of v ≡ shift
unfolding above_zero below_zero
at_zero v h p q = go (dec_lt v infinity) (dec_lt v minus_zero) (dec_lt v (minus_zero + infinity))
  where
    go : Dec (v < infinity) → Dec (v < minus_zero) → Dec (v < minus_zero + infinity) → place_of v ≡ shift
    go (yes a) b c =
        let least : v < 1 = lt_of_not-le (λ (l : 0 < v). outside 0 v infinity p l a) in
        omega (arith, plus v a, size-keeps v 0 (omega arith), size_none)
    go (no a) (yes b) c = other v (omega arith)
    go (no a) (no b) (yes c) =
        let least : v < minus_zero + 1 = lt_of_not-le (λ (l : minus_zero < v). outside minus_zero v (minus_zero + infinity) q l c) in
        omega (arith, minus v (omega arith) c, size-keeps (v - minus_zero) 0 (omega arith), size_none)
    go (no a) (no b) (no c) = other v (omega arith)

data Side (v : ℕ) : Type 0 where
  above : above_zero v ≡ true → 0 < v → v < infinity → place_of v ≡ shift + size_of v → Side v
  below : above_zero v ≡ false → below_zero v ≡ true → minus_zero < v → v < minus_zero + infinity → place_of v + size_of (v - minus_zero) ≡ shift → Side v
  level : above_zero v ≡ false → below_zero v ≡ false → place_of v ≡ shift → Side v

side : (v : ℕ) → Word v → Side v
side v h = go (above_zero v) refl (below_zero v) refl
  where
    go : (s : Bool) → above_zero v ≡ s → (t : Bool) → below_zero v ≡ t → Side v
    go true p t q = let b = above_zero_lem v p in above p b.0 b.1 (plus v b.1)
    go false p true q = let b = below-zero v q in below p q b.0 b.1 (minus v (omega (arith, b.0)) b.1)
    go false p false q = level p q (at_zero v h p q)

-- ---- what each run tells
within : (first many w : ℕ) → in_run (record { first = first; many = many }) w ≡ true → (w + (2 ^ 64 - first)) % 2 ^ 64 < many
unfolding in_run
within first many w i = ltb-true _ _ i

module _ (v w : ℕ) (v-word : Word v) (w-word : Word w) where
  lower : in_run (lower_words v) w ≡ true → place_of w < place_of v
  unfolding lower_words
  lower i = go (side v v-word) (dec_lt w minus_zero)
    where
      go : Side v → Dec (w < minus_zero) → place_of w < place_of v
      go (above e l m p) (yes s) =
          let r = within minus_zero (minus_zero + v) w (rw e at i) in
          omega (arith, p, plus w (omega arith), size-grows w v (omega arith))
      go (above e l m p) (no s) = omega (arith, p, not-above w w-word (omega arith), some v l)
      go (below e f l m p) s =
          let r = within (v + 1) (minus_zero + infinity - v - 1) w (rw (e, f) at i) in
          let more : v < w = omega arith in
          omega (arith, p, minus w (omega arith) (omega arith), size-grows (v - minus_zero) (w - minus_zero) (omega arith))
      go (level e f p) s =
          let r = within (minus_zero + 1) (infinity - 1) w (rw (e, f) at i) in
          let more : minus_zero < w = omega arith in
          omega (arith, p, minus w (omega arith) (omega arith), some (w - minus_zero) (omega arith))

  at_most : in_run (at_most_words v) w ≡ true → place_of w ≤ place_of v
  unfolding at_most_words
  at_most i = go (side v v-word) (dec_lt w minus_zero)
    where
      go : Side v → Dec (w < minus_zero) → place_of w ≤ place_of v
      go (above e l m p) (yes s) =
          let r = within minus_zero (minus_zero + v + 1) w (rw e at i) in
          omega (arith, p, plus w (omega arith), size-keeps w v (omega arith))
      go (above e l m p) (no s) = omega (arith, p, not-above w w-word (omega arith))
      go (below e f l m p) s =
          let r = within v (minus_zero + infinity - v) w (rw (e, f) at i) in
          let more : v ≤ w = omega arith in
          omega (arith, p, minus w (omega arith) (omega arith), size-keeps (v - minus_zero) (w - minus_zero) (omega arith))
      go (level e f p) (yes s) =
          let r = within minus_zero (minus_zero + 1) w (rw (e, f) at i) in
          omega (arith, p, plus w (omega arith), size-keeps w 0 (omega arith), size_none)
      go (level e f p) (no s) = omega (arith, p, not-above w w-word (omega arith))

  higher : in_run (higher_words v) w ≡ true → place_of v < place_of w
  unfolding higher_words
  higher i = go (side v v-word) (dec_lt w minus_zero)
    where
      go : Side v → Dec (w < minus_zero) → place_of v < place_of w
      go (above e l m p) s =
          let r = within (v + 1) (infinity - v - 1) w (rw e at i) in
          let more : v < w = omega arith in
          omega (arith, p, plus w (omega arith), size-grows v w more)
      go (below e f l m p) (yes s) = omega (arith, p, not-below w s, some (v - minus_zero) (omega arith))
      go (below e f l m p) (no s) =
          let r = within 0 v w (rw (e, f) at i) in
          let less : w < v = omega arith in
          omega (arith, p, minus w (omega arith) (omega arith), size-grows (w - minus_zero) (v - minus_zero) (omega arith))
      go (level e f p) s =
          let r = within 1 (infinity - 1) w (rw (e, f) at i) in
          let more : 0 < w = omega arith in
          omega (arith, p, plus w (omega arith), some w more)

-- ---- of points
module _ (p q : Point) where
  pub lower-y : Word q.y → Word p.y → in_run (lower_words q.y) p.y ≡ true → at_binary64.less_y p q ≡ true
  unfolding at_binary64
  lower-y h k i = lt-place _ _ (value-finite p.y) (value-finite q.y) ∙ lt-ltb _ _ (lower q.y p.y h k i)

  pub lower-x : Word q.x → Word p.x → in_run (lower_words q.x) p.x ≡ true → at_binary64.less_x p q ≡ true
  unfolding at_binary64
  lower-x h k i = lt-place _ _ (value-finite p.x) (value-finite q.x) ∙ lt-ltb _ _ (lower q.x p.x h k i)

  pub at-most-x : Word q.x → Word p.x → in_run (at_most_words q.x) p.x ≡ true → at_binary64.less_x q p ≡ false
  unfolding at_binary64
  at-most-x h k i = lt-place _ _ (value-finite q.x) (value-finite p.x) ∙ le-ltb _ _ (at_most q.x p.x h k i)

  pub higher-x : Word q.x → Word p.x → in_run (higher_words q.x) p.x ≡ true → at_binary64.less_x q p ≡ true
  unfolding at_binary64
  higher-x h k i = lt-place _ _ (value-finite q.x) (value-finite p.x) ∙ lt-ltb _ _ (higher q.x p.x h k i)
