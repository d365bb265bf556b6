-- The table of digits, filled digit by digit: after the first d of them each byte has its digit if that is one of them, and else 16.
use mathlib.Core.Path.{◌≡◌, sym, ap, ◌∙◌}
use mathlib.Core.Logic.{◌≢◌}
use mathlib.Core.Bool.{cond}
use mathlib.Core.List.{List}
use Prim.Native.Nat.{ℕ, ◌+◌, ◌≤◌, ◌<◌}
use native.Mathlib.Decide.{dec_lt}
use native.Mathlib.Omega.{arith}
use borrow.Author.Tests.{lt-ltb, le-ltb}
use lib.Dec.{ltb}
use lib.ListN.{length, set, get_or, replicate, get_or-replicate, length-set}
use lib.Seq.{get_or-set_same, get_or-set_other}
use Rattle.text.specs.Digits.{digit, digit_of, IsTable}
use Rattle.text.proofs.Reading.{below-0, to-9, below-a, to-f, above-f}
use Rattle.text.proofs.Writing.{digit_low, digit-high}
use Rattle.text.proofs.Back.{digit-back}
use Rattle.text.proofs.Forth.{digit-forth}

unfoldable pub Filled : List ℕ → ℕ → Type 0
Filled t d = (b : ℕ) → b < 256 → get_or t b 0 ≡ cond (ltb (digit_of b) d) (digit_of b) 16

pub none_filled : Filled (replicate 256 16) 0
unfolding Filled
none_filled b h = get_or-replicate 256 b 16 0 h ∙ sym (rw (le-ltb (digit_of b) 0 (omega arith)))

-- the byte of a digit is a byte
pub byte_small : (d : ℕ) → d < 16 → digit d < 256
byte_small d h = go (dec_lt d 10)
  where
    go : Dec (d < 10) → digit d < 256
    go (yes l) = omega (arith, digit_low d l)
    go (no l) = omega (arith, digit-high d (omega arith))

-- no byte stands for more than 16
at-most-16 : (b : ℕ) → digit_of b ≤ 16
at-most-16 b = go (dec_lt b 48) (dec_lt b 58) (dec_lt b 97) (dec_lt b 103)
  where
    go : Dec (b < 48) → Dec (b < 58) → Dec (b < 97) → Dec (b < 103) → digit_of b ≤ 16
    go (yes p) q r s = omega (arith, below-0 b p)
    go (no p) (yes q) r s = omega (arith, to-9 b (omega arith) q)
    go (no p) (no q) (yes r) s = omega (arith, below-a b (omega arith) r)
    go (no p) (no q) (no r) (yes s) = omega (arith, to-f b (omega arith) s)
    go (no p) (no q) (no r) (no s) = omega (arith, above-f b (omega arith))

-- one digit more
module _ (t : List ℕ) (d : ℕ) (long : length t ≡ 256) (small : d < 16) (f : Filled t d) where
  own : (b : ℕ) → b ≡ digit d → get_or (set t (digit d) d) b 0 ≡ cond (ltb (digit_of b) (d + 1)) (digit_of b) 16
  own b e =
      rw (e, get_or-set_same t (digit d) d 0 (omega (arith, byte_small d small)), digit-back d small, lt-ltb d (d + 1) (omega arith))

  others : (b : ℕ) → b < 256 → b ≢ digit d → get_or (set t (digit d) d) b 0 ≡ cond (ltb (digit_of b) (d + 1)) (digit_of b) 16
  unfolding Filled
  others b h n = get_or-set_other t (digit d) b d 0 n ∙ f b h ∙ go (dec_lt (digit_of b) d) (dec_lt d (digit_of b))
    where
      go : Dec (digit_of b < d) → Dec (d < digit_of b) → cond (ltb (digit_of b) d) (digit_of b) 16 ≡ cond (ltb (digit_of b) (d + 1)) (digit_of b) 16
      go (yes l) e = rw (lt-ltb (digit_of b) d l, lt-ltb (digit_of b) (d + 1) (omega arith))
      go (no l) (yes m) = rw (le-ltb (digit_of b) d (omega arith), le-ltb (digit_of b) (d + 1) (omega arith))
      go (no l) (no m) = let e : digit_of b ≡ d = omega arith in absurd (n (sym (digit-forth b (omega arith)) ∙ ap digit e))

  pub one-filled : Filled (set t (digit d) d) (d + 1)
  unfolding Filled
  one-filled b h = go (dec_lt b (digit d)) (dec_lt (digit d) b)
    where
      go : Dec (b < digit d) → Dec (digit d < b) → get_or (set t (digit d) d) b 0 ≡ cond (ltb (digit_of b) (d + 1)) (digit_of b) 16
      go (yes l) m = others b h (λ e. omega arith)
      go (no l) (yes m) = others b h (λ e. omega arith)
      go (no l) (no m) = own b (omega arith)

pub all-filled : (t : List ℕ) → Filled t 16 → IsTable t
unfolding IsTable Filled
all-filled t f b l = f b l ∙ go (dec_lt (digit_of b) 16)
  where
    go : Dec (digit_of b < 16) → cond (ltb (digit_of b) 16) (digit_of b) 16 ≡ digit_of b
    go (yes m) = rw (lt-ltb (digit_of b) 16 m)
    go (no m) = rw (le-ltb (digit_of b) 16 (omega arith)) (omega (arith, at-most-16 b))

-- a table is filled digit by digit
pub one_filled : (t : List ℕ) (b d : ℕ) → b ≡ digit d → length t ≡ 256 → d < 16 → Filled t d → Filled (set t b d) (d + 1) × (length (set t b d) ≡ 256)
one_filled t b d e long small f = rw e (one-filled t d long small f, length-set t (digit d) d ∙ long)

pub ruleset filling = (none_filled, one_filled, all-filled)

-- the digit of a byte that is looked up
pub looked-up : (t : List ℕ) (b : ℕ) → IsTable t → b < 256 → get_or t b 0 ≡ digit_of b
unfolding IsTable
looked-up t b f h = f b h
