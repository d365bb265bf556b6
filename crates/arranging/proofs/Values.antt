-- Places in totalOrder are in the order of the numbers by value: minus zero turned, the place is less exactly where the number is, and the same exactly where
-- the numbers are equal. Infinities stand at both ends; only not-a-numbers are left out, which compare with nothing.
use mathlib.Core.Path.{◌≡◌, refl, sym, ◌∙◌}
use mathlib.Core.Logic.{◌⊎◌, inl, inr}
use mathlib.Core.Bool.{Bool, true, false, not, cond, true≢false}
use Prim.Native.Nat.{ℕ, ◌+◌, ◌-◌, ◌/◌, ◌%◌, ◌^◌, ◌≤◌, ◌<◌}
use native.Mathlib.Nat.{eq-or-lt_of_le}
use native.Mathlib.Omega.{arith}
use borrow.Author.Tests.{ltb-false, lt-ltb, le-ltb, eq-eqb, ne_eqb}
use lib.Dec.{leb, ltb, eqb}
use lib.Ieee.{Float, nan, inf, fin, binary64, is_nan, lt, eq, of_bits, of_fields}
use lib.Ieee.Bits.{of_bits-fits, nan_bits_is, nan_bits_above}
use Rattle.numbers.specs.Binary64.{Finite, not_finite}
use Rattle.numbers.specs.Words.{value, unfit_word, unsigned_word}
use Rattle.numbers.proofs.Units.{fit-finite}
use Rattle.numbers.proofs.Values.{fit-value}
use Rattle.numbers.proofs.Place.{shift, place, lt-place, eq-place}
use Rattle.numbers.proofs.Patterns.{size_of, infinite, size-grows, size_none, pattern-finite, pattern-size}
use Rattle.arranging.specs.Order.{rank}
use Rattle.arranging.proofs.Ranks.{Word, unsigned_small, unsigned-twice}
use Rattle.arranging.proofs.Heights.{height, size-infinite, Number, heights}

abbrev number : ℕ → Float
number w = of_bits binary64 w

-- ---- the number of a word: finite and at its height, or an infinity

data Kind (w : ℕ) : Type 0 where
  finite : Finite (number w) → place (number w) ≡ height w → 0 < height w → height w < shift + shift → Kind w
  infinity : (s : Bool) → number w ≡ inf s → height w ≡ cond s 0 (shift + shift) → Kind w

by_height : (w : ℕ) → w % 2 ^ 63 < infinite → place (number w) ≡ height w
unfolding place height
by_height w h = let p = pattern-size w h in rw (p.0, p.1)

inside : (w : ℕ) → w % 2 ^ 63 < infinite → (0 < height w) × (height w < shift + shift)
unfolding height
inside w h = go (leb (2 ^ 63) w) (size_of (w % 2 ^ 63)) (rw size-infinite at (size-grows (w % 2 ^ 63) infinite h))
  where
    go : (b : Bool) (n : ℕ) → n < shift → (0 < cond b (shift - n) (shift + n)) × (cond b (shift - n) (shift + n) < shift + shift)
    go true n l = (omega arith, omega arith)
    go false n l = (omega arith, omega arith)

fields-infinite : (s : Bool) (f t : ℕ) → f ≡ 2047 → t ≡ 0 → of_fields binary64 s f t ≡ inf s
unfolding of_fields
fields-infinite s f t e d = rw (e, d)

is-infinite : (w : ℕ) → w % 2 ^ 63 ≡ infinite → number w ≡ inf (leb (2 ^ 63) w)
unfolding of_bits
is-infinite w e = fields-infinite (leb (2 ^ 63) w) (w % 2 ^ 63 / 2 ^ 52) (w % 2 ^ 52) (omega arith) (omega arith)

at-end : (w : ℕ) → w % 2 ^ 63 ≡ infinite → height w ≡ cond (leb (2 ^ 63) w) 0 (shift + shift)
unfolding height
at-end w e = rw (e, size-infinite) (go (leb (2 ^ 63) w))
  where
    go : (b : Bool) → cond b (shift - shift) (shift + shift) ≡ cond b 0 (shift + shift)
    go true = omega arith
    go false = refl

kind : (w : ℕ) → w % 2 ^ 63 ≤ infinite → Kind w
kind w h = go (eq-or-lt_of_le h)
  where
    go : (w % 2 ^ 63 ≡ infinite) ⊎ (w % 2 ^ 63 < infinite) → Kind w
    go (inl e) = infinity (leb (2 ^ 63) w) (is-infinite w e) (at-end w e)
    go (inr l) = let i = inside w l in finite (pattern-finite w l) (by_height w l) i.0 i.1

-- ---- comparisons by value are those of heights

infinity-first : (s : Bool) (x : Float) → Finite x → (lt (inf s) x ≡ s) × (eq (inf s) x ≡ false)
unfolding lt eq not_finite
infinity-first s nan h = absurd (true≢false h.finite)
infinity-first s (inf t) h = absurd (true≢false h.finite)
infinity-first s (fin t n d) h = (refl, refl)

infinity-second : (s : Bool) (x : Float) → Finite x → (lt x (inf s) ≡ not s) × (eq x (inf s) ≡ false)
unfolding lt eq not_finite
infinity-second s nan h = absurd (true≢false h.finite)
infinity-second s (inf t) h = absurd (true≢false h.finite)
infinity-second s (fin t n d) h = (refl, refl)

module _ (a : ℕ) (A : 0 < a) where
  over : (b : ℕ) → 0 < b → b < a → (s : Bool) → (ltb (cond s 0 a) b ≡ s) × (eqb (cond s 0 a) b ≡ false)
  over b l m true = (lt-ltb 0 b l, ne_eqb 0 b (λ (e : ◌≡◌ {A = ℕ} 0 b). omega arith))
  over b l m false = (le-ltb a b (omega arith), ne_eqb a b (λ (e : a ≡ b). omega arith))

  under : (b : ℕ) → 0 < b → b < a → (s : Bool) → (ltb b (cond s 0 a) ≡ not s) × (eqb b (cond s 0 a) ≡ false)
  under b l m true = (le-ltb b 0 (omega arith), ne_eqb b 0 (λ (e : b ≡ 0). omega arith))
  under b l m false = (lt-ltb b a m, ne_eqb b a (λ (e : b ≡ a). omega arith))

  ends : (s t : Bool) → (lt (inf s) (inf t) ≡ ltb (cond s 0 a) (cond t 0 a)) × (eq (inf s) (inf t) ≡ eqb (cond s 0 a) (cond t 0 a))
  unfolding lt eq
  ends true true = (refl, refl)
  ends true false = (sym (lt-ltb 0 a A), sym (ne_eqb 0 a (λ (e : ◌≡◌ {A = ℕ} 0 a). omega arith)))
  ends false true = (sym (le-ltb a 0 (omega arith)), sym (ne_eqb a 0 (λ (e : a ≡ 0). omega arith)))
  ends false false = (sym (le-ltb a a (omega arith)), sym (eq-eqb a a refl))

by_value : (v w : ℕ) → Kind v → Kind w → 0 < shift + shift → (lt (number v) (number w) ≡ ltb (height v) (height w)) × (eq (number v) (number w) ≡ eqb (height v) (height w))
by_value v w (finite f p l m) (finite g q i j) A = rw (← p, ← q) (lt-place (number v) (number w) f g, eq-place (number v) (number w) f g)
by_value v w (finite f p l m) (infinity t n e) A =
    let c = infinity-second t (number v) f in
    let d = under (shift + shift) A (height v) l m t in
    rw (n, e) (c.0 ∙ sym d.0, c.1 ∙ sym d.1)
by_value v w (infinity s n e) (finite g q i j) A =
    let c = infinity-first s (number w) g in
    let d = over (shift + shift) A (height w) i j s in
    rw (n, e) (c.0 ∙ sym d.0, c.1 ∙ sym d.1)
by_value v w (infinity s n e) (infinity t m f) A = rw (n, e, m, f) (ends (shift + shift) A s t)

-- ---- and so those of places in totalOrder

low : (w : ℕ) → Word w → is_nan (number w) ≡ false → Number w
low w h n = record { word = h; number = ltb-false infinite (w % 2 ^ 63) (sym (nan_bits_above binary64 w) ∙ nan_bits_is binary64 w ∙ n) }

-- exactly where the number of v is less than that of w, and exactly where they are equal
pub record ByValue (v w : ℕ) : Type 0 where
  pub less : lt (number v) (number w) ≡ ltb (rank (unsigned_word v)) (rank (unsigned_word w))
  pub equal : eq (number v) (number w) ≡ eqb (rank (unsigned_word v)) (rank (unsigned_word w))

pub in_order_lem : (v w : ℕ) → Word v → Word w → is_nan (number v) ≡ false → is_nan (number w) ≡ false → ByValue v w
in_order_lem v w h k m n =
    let p = low v h m in
    let q = low w k n in
    let up = heights v w p q in
    let c = by_value v w (kind v p.number) (kind w q.number) (omega (arith, size-grows 0 infinite (omega arith), size_none, size-infinite)) in
    record { less = c.0 ∙ up.0; equal = c.1 ∙ up.1 }

finite_number : (x : Float) → Finite x → is_nan x ≡ false
unfolding not_finite is_nan
finite_number nan h = absurd (true≢false h.finite)
finite_number (inf s) h = refl
finite_number (fin s m e) h = refl

-- ---- so words compare in the points that loading stores, where refusal 2 strikes neither

pub record StoredByValue (v w : ℕ) : Type 0 where
  pub less : lt (value (unsigned_word v)) (value (unsigned_word w)) ≡ ltb (rank (unsigned_word v)) (rank (unsigned_word w))
  pub equal : eq (value (unsigned_word v)) (value (unsigned_word w)) ≡ eqb (rank (unsigned_word v)) (rank (unsigned_word w))

fit-number : (w : ℕ) → unfit_word w ≡ false → is_nan (number w) ≡ false
unfolding unfit_word
fit-number w h = finite_number (number w) (fit-finite (number w) (of_bits-fits binary64 w) h)

pub stored-in-order : (v w : ℕ) → Word v → Word w → unfit_word (unsigned_word v) ≡ false → unfit_word (unsigned_word w) ≡ false → StoredByValue v w
stored-in-order v w h k m n =
    let p = fit-value (unsigned_word v) m in
    let q = fit-value (unsigned_word w) n in
    let c = in_order_lem (unsigned_word v) (unsigned_word w) (unsigned_small v h) (unsigned_small w k) (fit-number (unsigned_word v) m) (fit-number (unsigned_word w) n) in
    let less = c.less in
    let equal = c.equal in
    record { less = rw (p, q, less, unsigned-twice v, unsigned-twice w); equal = rw (p, q, equal, unsigned-twice v, unsigned-twice w) }
