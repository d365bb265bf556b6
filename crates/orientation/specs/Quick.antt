-- The tests in plain floats, each operation rounded once. Cited by private functions alone: a reader of the promise need not read it.
use Rattle.std.specs.Prelude.{Bool, true, false, cond, Float}
use Rattle.std.specs.Float.{binary64}
use Rattle.std.specs.Float.Ieee.{mul, neg, lt, eq, of_bits}
use Rattle.numbers.specs.Binary64.{zero, huge}
use Rattle.numbers.specs.declared.Coordinate.{Coordinate}

-- 1 + 2^-49
abbrev pub margin : Float
margin = of_bits binary64 0x3ff0_0000_0000_0008

-- 2^-1021
abbrev pub tiny : Float
tiny = of_bits binary64 0x0020_0000_0000_0000

-- x is above y by more than the margin whatever their signs, both are finite, and one of them is not tiny
unfoldable pub certainly_above : Float → Float → Bool
certainly_above x y =
    cond (lt (mul binary64 y margin) x)
    (cond (lt y (mul binary64 x margin))
    (cond (lt x huge)
    (cond (lt (neg huge) y) (cond (lt tiny x) true (lt y (neg tiny))) false)
    false)
    false)
    false

unfoldable pub exactly_zero : Float → Float → Bool
exactly_zero u v = cond (eq u zero) true (eq v zero)

unfoldable pub same_point : Coordinate → Coordinate → Bool
same_point a b = cond (eq a.x b.x) (eq a.y b.y) false
