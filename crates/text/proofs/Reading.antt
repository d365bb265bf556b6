-- Digits are read from the first to the last; after i of them the number read so far is below base ^ i.
use Rattle.std.proofs.Common.{None, Option, Some}
use mathlib.Core.Path.{◌≡◌, refl, ◌∙◌}
use mathlib.Core.Bool.{Bool, true, false, cond, ◌&&◌}
use mathlib.Core.List.{List}
use Prim.Native.Nat.{ℕ, suc, ◌+◌, ◌-◌, ◌*◌, ◌%◌, ◌^◌, ◌≤◌, ◌<◌}
use native.Mathlib.Nat.{add-zero, sub-zero, pow-zero, add-mul, mod-eq_of_lt, mul_comm, pow-succ', mul-le-mul_right, pow-le-pow_right}
use native.Mathlib.Decide.{dec_lt}
use native.Mathlib.Numerals.{add-one}
use native.Mathlib.Omega.{arith}
use borrow.Author.Tests.{lt-ltb, le-ltb}
use lib.Dec.{ltb}
use lib.ListN.{get_or}
use Rattle.text.specs.Digits.{digit_of, value}
use Rattle.text.specs.Words.{bytes}

-- the five runs of bytes
module _ (b : ℕ) where
  pub below-0 : b < 48 → 16 ≡ digit_of b
  unfolding digit_of
  below-0 h = rw (lt-ltb b 48 h)

  pub to-9 : 48 ≤ b → b < 58 → b - 48 ≡ digit_of b
  unfolding digit_of
  to-9 h i = rw (le-ltb b 48 h, lt-ltb b 58 i)

  pub below-a : 58 ≤ b → b < 97 → 16 ≡ digit_of b
  unfolding digit_of
  below-a i j = rw (le-ltb b 48 (omega arith), le-ltb b 58 i, lt-ltb b 97 j)

  pub to-f : 97 ≤ b → b < 103 → b - 87 ≡ digit_of b
  unfolding digit_of
  to-f j k = rw (le-ltb b 48 (omega arith), le-ltb b 58 (omega arith), le-ltb b 97 j, lt-ltb b 103 k)

  pub above-f : 103 ≤ b → 16 ≡ digit_of b
  unfolding digit_of
  above-f k = rw (le-ltb b 48 (omega arith), le-ltb b 58 (omega arith), le-ltb b 97 (omega arith), le-ltb b 103 k)

-- what is left to read after i of count digits
unfoldable left : List ℕ → ℕ → ℕ → ℕ → ℕ → ℕ → Option ℕ
left s at base count i v = value base v (bytes s (at + i) (count - i))

-- what is left to read where `all` tells whether the i bytes read are digits
pub left_by : List ℕ → ℕ → ℕ → ℕ → ℕ → Bool → ℕ → Option ℕ
left_by s at base count i all v = cond all (left s at base count i v) None

pub read-begun : (s : List ℕ) (at base count : ℕ) → left_by s at base count 0 true 0 ≡ value base 0 (bytes s at count)
unfolding left_by left
read-begun s at base count = rw (add-zero, sub-zero)

-- one digit d read
module _ (s : List ℕ) (at base count i v d : ℕ) (h : i < count) (e : d ≡ digit_of (get_or s (at + i) 0)) where
  one-read : left s at base count i v ≡ cond (ltb d base) (left s at base count (i + 1) (v * base + d)) None
  unfolding left value bytes
  one-read =
      let q : count - i ≡ suc (count - (i + 1)) = omega arith in
      let p : at + (i + 1) ≡ at + i + 1 = omega arith in rw (q, p, e)

  pub read-on : (all : Bool) → left_by s at base count i all v ≡ left_by s at base count (i + 1) (all && ltb d base) (v * base + d % base)
  unfolding left_by
  read-on false = refl
  read-on true = go (dec_lt d base)
    where
      go : Dec (d < base) → left s at base count i v ≡ cond (ltb d base) (left s at base count (i + 1) (v * base + d % base)) None
      go (yes l) = rw (one-read, lt-ltb d base l, mod-eq_of_lt l)
      go (no l) = rw (one-read, le-ltb d base (omega arith))

module _ (s : List ℕ) (at base count i : ℕ) (all : Bool) (v : ℕ) (h : count ≤ i) where
  all_read : left s at base count i v ≡ Some v
  unfolding left value bytes
  all_read = let q : count - i ≡ 0 = omega arith in rw q

  pub read-end : all ≡ true → left_by s at base count i all v ≡ Some v
  unfolding left_by
  read-end e = rw (e, all_read)

  pub read_none : all ≡ false → left_by s at base count i all v ≡ None
  unfolding left_by
  read_none e = rw e

-- a digit more keeps the number below one power more, which is a u64 where the whole is
pub grow : (base v d i : ℕ) → v < base ^ i → d < base → v * base + d < base ^ (i + 1)
grow base v d i h l =
    let p : base ^ (i + 1) ≡ base ^ i * base = rw add-one (pow-succ' base i ∙ mul_comm base (base ^ i)) in
    let q : (v + 1) * base ≤ base ^ i * base = mul-le-mul_right base (omega arith) in
    let r : (v + 1) * base ≡ v * base + 1 * base = add-mul v 1 base in
    let t : 1 * base ≡ base = omega arith in omega arith

pub fits : (base v d i count : ℕ) → base ^ count ≤ 18446744073709551616 → i < count → v < base ^ i → d < base → v * base + d < 18446744073709551616
fits base v d i count m h l e =
    let more : v * base + d < base ^ (i + 1) = grow base v d i l e in
    let most : base ^ (i + 1) ≤ base ^ count = pow-le-pow_right {n = base} (omega arith) {i = i + 1} {j = count} (omega arith) in omega arith

pub none_read : (base : ℕ) → 0 < base ^ 0
none_read base = omega (arith, pow-zero base)
