-- Refusal 2 of a word by its pattern: with the sign left out, those above the limit's are the words that are not finite or too large.
use mathlib.Core.Path.{◌≡◌, refl, sym, ◌∙◌}
use mathlib.Core.Bool.{Bool, true, false, not, cond, true≢false}
use Prim.Native.Nat.{ℕ, ◌+◌, ◌%◌, ◌^◌, ◌≤◌, ◌<◌}
use native.Mathlib.Decide.{dec_lt}
use native.Mathlib.Omega.{arith}
use borrow.Author.Tests.{lt-ltb, le-ltb, le-leb, lt-leb}
use lib.Dec.{ltb, leb, lit<}
use lib.Ieee.{Float, nan, inf, fin, binary64, of_bits, fits, lt, le, eq, neg}
use Rattle.numbers.specs.Binary64.{Finite, not_finite, limit, unfit}
use Rattle.numbers.specs.Exact.{size, negative}
use Rattle.numbers.specs.Words.{unfit_word}
use Rattle.numbers.proofs.Place.{place, shift, le-place, place_is}
use Rattle.numbers.proofs.Patterns.{size_of, infinite, size-grows, size-keeps, pattern-finite, pattern-size, above-finite}

abbrev pub limit_word : ℕ
limit_word = 0x4630_0000_0000_0000

-- what is not finite is unfit
not-finite-unfit : (x : Float) → not_finite x ≡ true → unfit x ≡ true
unfolding not_finite unfit le neg of_bits lt eq
not-finite-unfit nan e = refl
not-finite-unfit (inf true) e = refl
not-finite-unfit (inf false) e = refl
not-finite-unfit (fin s m d) e = absurd (true≢false (sym e))

limit-finite : Finite limit
limit-finite = pattern-finite limit_word (lit< tt)

-- ---- where the limit and its negative stand

neg-finite : Finite (neg limit)
unfolding neg of_bits fits not_finite
neg-finite = record { held = tt; finite = refl }

limit-size : size limit ≡ size_of limit_word
limit-size = (pattern-size limit_word (lit< tt)).0

high : place limit ≡ shift + size_of limit_word
high =
    let is : size limit + shift ≡ place limit + 0 = at-limit in
    omega (arith, is, limit-size)
  where
    at-limit : size limit + shift ≡ place limit + 0
    at-limit = rw (pattern-size limit_word (lit< tt)).1 at (place_is limit limit-finite)

neg-size : size (neg limit) ≡ size limit
unfolding neg of_bits size
neg-size = refl

neg-sign : negative (neg limit) ≡ true
unfolding neg of_bits negative
neg-sign = refl

low : place (neg limit) + size_of limit_word ≡ shift
low =
    let is : 0 + shift ≡ place (neg limit) + size (neg limit) = rw neg-sign at (place_is (neg limit) neg-finite) in
    omega (arith, is, neg-size, limit-size)

-- ---- by the size of a word
module _ (w : ℕ) (h : w % 2 ^ 63 < infinite) where
  abbrev x : Float
  x = of_bits binary64 w

  abbrev n : ℕ
  n = size_of (w % 2 ^ 63)

  fine : Finite x
  fine = pattern-finite w h

  stands : cond (negative x) 0 n + shift ≡ place x + cond (negative x) n 0
  stands = rw (pattern-size w h).0 at (place_is x fine)

  by_place : unfit x ≡ cond (leb (place (neg limit)) (place x)) (not (leb (place x) (place limit))) true
  unfolding unfit
  by_place = rw (le-place (neg limit) x neg-finite fine, le-place x limit fine limit-finite)

  within : n ≤ size_of limit_word → unfit x ≡ false
  within m = by_place ∙ go (negative x) stands
    where
      go : (s : Bool) → cond s 0 n + shift ≡ place x + cond s n 0 → cond (leb (place (neg limit)) (place x)) (not (leb (place x) (place limit))) true ≡ false
      go true e = rw (le-leb (place (neg limit)) (place x) (omega (arith, e, m, low)), le-leb (place x) (place limit) (omega (arith, e, high)))
      go false e = rw (le-leb (place (neg limit)) (place x) (omega (arith, e, low)), le-leb (place x) (place limit) (omega (arith, e, m, high)))

  beyond : size_of limit_word < n → unfit x ≡ true
  beyond m = by_place ∙ go (negative x) stands
    where
      go : (s : Bool) → cond s 0 n + shift ≡ place x + cond s n 0 → cond (leb (place (neg limit)) (place x)) (not (leb (place x) (place limit))) true ≡ true
      go true e = rw (lt-leb (place (neg limit)) (place x) (omega (arith, e, m, low)))
      go false e = rw (le-leb (place (neg limit)) (place x) (omega (arith, e, low)), lt-leb (place x) (place limit) (omega (arith, e, m, high)))

pub unfit_word_is : (w : ℕ) → unfit_word w ≡ ltb limit_word (w % 2 ^ 63)
unfolding unfit_word
unfit_word_is w = go (dec_lt (w % 2 ^ 63) infinite) (dec_lt limit_word (w % 2 ^ 63))
  where
    go : Dec (w % 2 ^ 63 < infinite) → Dec (limit_word < w % 2 ^ 63) → unfit (of_bits binary64 w) ≡ ltb limit_word (w % 2 ^ 63)
    go (yes h) (yes m) = beyond w h (size-grows limit_word (w % 2 ^ 63) m) ∙ sym (lt-ltb limit_word (w % 2 ^ 63) m)
    go (yes h) (no m) = within w h (size-keeps (w % 2 ^ 63) limit_word (omega (arith, m))) ∙ sym (le-ltb limit_word (w % 2 ^ 63) (omega (arith, m)))
    go (no h) m = not-finite-unfit (of_bits binary64 w) (above-finite w (omega (arith, h))) ∙ sym (lt-ltb limit_word (w % 2 ^ 63) (omega (arith, h)))
