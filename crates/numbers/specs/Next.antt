-- IEEE 754-2019, 5.3.1, next_up: the least number that compares greater than x. It is taken on the bit pattern: patterns of one sign stand in the
-- order of their sizes, so that the next number up is one pattern on, or one back below zero. That this is the least number above is a law (`proofs/Next`).
use Rattle.std.specs.Prelude.{true, false, cond, ℕ, ◌+◌, ◌-◌, eqb, ltb, Float}
use Rattle.std.specs.Float.{nan, inf, fin, binary64}
use Rattle.std.specs.Float.Ieee.{neg, of_bits, to_bits}

-- the pattern of minus zero, the first with the sign set
abbrev pub minus_zero : ℕ
minus_zero = 0x8000_0000_0000_0000

-- 2^1024 - 2^971, the largest finite number
abbrev pub largest : Float
largest = of_bits binary64 0x7fef_ffff_ffff_ffff

-- 2^-1074, the least number above zero
abbrev pub least_positive : Float
least_positive = of_bits binary64 1

-- the next pattern up: away from zero above it, towards zero below it; after either zero comes the least positive
unfoldable pub next_pattern : ℕ → ℕ
next_pattern b = cond (ltb b minus_zero) (b + 1) (cond (eqb b minus_zero) 1 (b - 1))

unfoldable pub next_up : Float → Float
next_up nan = nan
next_up (inf true) = neg largest
next_up (inf false) = inf false
next_up (fin s m e) = of_bits binary64 (next_pattern (to_bits binary64 (fin s m e)))
