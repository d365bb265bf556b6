-- Numbers are binary64, IEEE 754, nearest, ties to even: values and operators are the toolchain's `Rattle.std.specs.Float.Ieee`. Here stands what 01 adds to them.
use Rattle.std.specs.Prelude.{◌≡◌, Bool, true, false, not, cond, List, [], ◌∷◌, ℕ, suc, T, Float}
use Rattle.std.specs.Float.{nan, inf, fin, binary64}
use Rattle.std.specs.Float.Ieee.{lt, le, eq, ne, neg, fits, of_bits}

-- 0.0 and 1.0, by their bits
abbrev pub zero : Float
zero = of_bits binary64 0

abbrev pub one : Float
one = of_bits binary64 0x3ff0_0000_0000_0000

-- minus zero becomes zero, every other number stays
unfoldable pub unsigned : Float → Float
unsigned x = cond (eq x zero) zero x

unfoldable pub not_finite : Float → Bool
not_finite nan = true
not_finite (inf s) = true
not_finite (fin s m e) = false

-- a machine word holds it: `Float` has other numbers too
abbrev pub Held : Float → Type 0
Held x = T (fits binary64 x)

-- a finite binary64 number
pub record Finite (x : Float) : Type 0 where
  pub held : Held x
  pub finite : not_finite x ≡ false

-- the place of the first number that is not finite, counted from 0; the length where all are finite
unfoldable pub first_not_finite : List Float → ℕ
first_not_finite [] = 0
first_not_finite (x ∷ xs) = cond (not_finite x) 0 (suc (first_not_finite xs))

-- 2^1023, the largest power of two that is finite: what lies between its negative and it is finite. No promise names it; tests in plain floats do.
abbrev pub huge : Float
huge = of_bits binary64 0x7fe0_0000_0000_0000

-- 2^100, the largest coordinate that is loaded or stands in a pool
abbrev pub limit : Float
limit = of_bits binary64 0x4630_0000_0000_0000

-- not finite, or above 2^100 in size: a not-a-number compares with nothing
unfoldable pub unfit : Float → Bool
unfit x = cond (le (neg limit) x) (not (le x limit)) true

-- With one not-a-number the other is taken, of equals the first named. Only a not-a-number differs from itself.
abbrev pub minimum : Float → Float → Float
minimum a b = cond (ne a a) b (cond (lt b a) b a)

abbrev pub maximum : Float → Float → Float
maximum a b = cond (ne a a) b (cond (lt a b) b a)
