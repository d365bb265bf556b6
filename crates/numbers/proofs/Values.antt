-- Every word has a finite value; a word that refusal 2 passes has the value of its pattern; a number that is written as a word is read again.
use mathlib.Core.Path.{◌≡◌, refl, sym, ap, ◌∙◌}
use mathlib.Core.Bool.{Bool, true, false, cond, false≢true}
use mathlib.Core.Logic.{◌≢◌}
use Prim.Native.Nat.{ℕ, ◌+◌, ◌%◌, ◌^◌, ◌<◌, ◌≤◌}
use native.Mathlib.Omega.{arith}
use borrow.Author.Tests.{lt-ltb, eq-eqb, ltb-true, ltb-false, eqb-true, eqb-false}
use lib.Dec.{eqb, ltb, lit<}
use lib.Ieee.{Float, nan, inf, fin, binary64, of_bits, to_bits, fits, eq, is_nan}
use lib.Ieee.Bits.{of_bits-to_bits, of_bits-fits, nan_bits_is, nan_bits_above}
pub use Rattle.std.proofs.lemmas.Float.{not_nan_f64_bits}
use Rattle.numbers.specs.Binary64.{Finite, zero, unsigned, not_finite}
use Rattle.numbers.specs.Next.{minus_zero}
use Rattle.numbers.specs.Words.{value, unfit_word, unsigned_word}
use Rattle.numbers.proofs.Units.{fit-finite}
use Rattle.numbers.specs.Exact.{size, negative}
use Rattle.numbers.proofs.Place.{place, shift, eq-place, place_is}
use Rattle.numbers.proofs.Patterns.{size_of, infinite, size-grows, size_none, pattern-finite, pattern-size, above-finite}

-- ---- by the pattern

pub value-below : (w : ℕ) → w % 2 ^ 63 < infinite → value w ≡ of_bits binary64 w
unfolding value
value-below w h = rw (pattern-finite w h).finite

pub value-above : (w : ℕ) → infinite ≤ w % 2 ^ 63 → value w ≡ zero
unfolding value
value-above w h = rw (above-finite w h)

-- a pattern above infinity's, the sign left out, is not-a-number's
is-nan : (x : Float) → is_nan x ≡ true → x ≡ nan
unfolding is_nan
is-nan nan e = refl
is-nan (inf s) e = absurd (false≢true e)
is-nan (fin s m d) e = absurd (false≢true e)

pub not-a-number : (w : ℕ) → infinite < w % 2 ^ 63 → of_bits binary64 w ≡ nan
not-a-number w h = is-nan (of_bits binary64 w) (sym (nan_bits_is binary64 w) ∙ nan_bits_above binary64 w ∙ lt-ltb _ _ h)

-- the value of a word, and which patterns are numbers
pub ruleset patterns = (value-below, value-above, not_nan_f64_bits)

-- ---- every word

pub zero-finite : Finite zero
unfolding not_finite fits of_bits
zero-finite = record { held = tt; finite = refl }

pub value-finite : (w : ℕ) → Finite (value w)
unfolding value
value-finite w = go (not_finite (of_bits binary64 w)) refl
  where
    go : (b : Bool) → not_finite (of_bits binary64 w) ≡ b → Finite (cond b zero (of_bits binary64 w))
    go true e = zero-finite
    go false e = record { held = of_bits-fits binary64 w; finite = e }

-- ---- words that refusal 2 passes

pub fit-value : (w : ℕ) → unfit_word w ≡ false → value w ≡ of_bits binary64 w
unfolding value unfit_word
fit-value w h = rw (fit-finite (of_bits binary64 w) (of_bits-fits binary64 w) h).finite

-- ---- a finite number written as a word

pub value-word : (x : Float) → Finite x → value (to_bits binary64 x) ≡ x
unfolding value
value-word x h = rw (of_bits-to_bits binary64 x h.held, h.finite)

-- ---- the sign of zero

-- a finite number that equals zero has no size
no_size : (x : Float) → Finite x → eq x zero ≡ true → size x ≡ 0
unfolding size negative of_bits
no_size x h e =
    let level : place x ≡ place zero = eqb-true (place x) (place zero) (sym (eq-place x zero h zero-finite) ∙ e) in
    go (negative x) (place_is x h) (place_is zero zero-finite) level
  where
    go : (s : Bool) → cond s 0 (size x) + shift ≡ place x + cond s (size x) 0 → 0 + shift ≡ place zero + 0 → place x ≡ place zero → size x ≡ 0
    go true p q l = omega arith
    go false p q l = omega arith

sized : (w : ℕ) → w % 2 ^ 63 < infinite → w % 2 ^ 63 ≢ 0 → size (of_bits binary64 w) ≢ 0
sized w h d e =
    let more = size-grows 0 (w % 2 ^ 63) (omega (arith, d)) in
    let same = (pattern-size w h).0 in
    omega (arith, more, same, e, size_none)

at_zero : 0 + shift ≡ place zero + 0
unfolding size negative of_bits
at_zero = place_is zero zero-finite

level-zero : (w : ℕ) → w % 2 ^ 63 ≡ 0 → eq (of_bits binary64 w) zero ≡ true
level-zero w e =
    let h : w % 2 ^ 63 < infinite = omega (arith, e) in
    let none : size (of_bits binary64 w) ≡ 0 = (pattern-size w h).0 ∙ ap size_of e ∙ size_none in
    let level : place (of_bits binary64 w) ≡ place zero = go (negative (of_bits binary64 w)) (size (of_bits binary64 w)) none (place_is (of_bits binary64 w) (pattern-finite w h)) at_zero in
    eq-place (of_bits binary64 w) zero (pattern-finite w h) zero-finite ∙ eq-eqb (place (of_bits binary64 w)) (place zero) level
  where
    go : (s : Bool) (n : ℕ) → n ≡ 0 → cond s 0 n + shift ≡ place (of_bits binary64 w) + cond s n 0 → 0 + shift ≡ place zero + 0 → place (of_bits binary64 w) ≡ place zero
    go true n z p q = omega arith
    go false n z p q = omega arith

either : (b : Bool) → zero ≡ cond b zero zero
either true = refl
either false = refl

pub value-unsigned : (w : ℕ) → value (unsigned_word w) ≡ unsigned (value w)
unfolding unsigned_word unsigned
value-unsigned w = go (eqb (w % minus_zero) 0) refl
  where
    low : (b : Bool) → ltb (w % 2 ^ 63) infinite ≡ b → w % minus_zero ≢ 0 → value w ≡ unsigned (value w)
    low true l d = rw (value-below w (ltb-true (w % 2 ^ 63) infinite l)) (apart (eq (of_bits binary64 w) zero) refl)
      where
        h : w % 2 ^ 63 < infinite
        h = ltb-true (w % 2 ^ 63) infinite l

        apart : (b : Bool) → eq (of_bits binary64 w) zero ≡ b → of_bits binary64 w ≡ cond b zero (of_bits binary64 w)
        apart true e = absurd (sized w h d (no_size (of_bits binary64 w) (pattern-finite w h) e))
        apart false e = refl
    low false l d = rw (value-above w (ltb-false (w % 2 ^ 63) infinite l)) (either (eq zero zero))

    go : (b : Bool) → eqb (w % minus_zero) 0 ≡ b → value (cond b 0 w) ≡ unsigned (value w)
    go true e =
        let z : w % 2 ^ 63 ≡ 0 = eqb-true (w % minus_zero) 0 e in
        let h : w % 2 ^ 63 < infinite = omega (arith, z) in
        value-below 0 (lit< tt) ∙ rw (value-below w h, level-zero w z)
    go false e = low (ltb (w % 2 ^ 63) infinite) refl (eqb-false (w % minus_zero) 0 e)
