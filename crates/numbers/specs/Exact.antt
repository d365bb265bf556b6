-- The exact value of a number. Each finite number is a whole multiple of 2^-1074; one that is not finite counts as 0, so that every definition
-- built on this is total. Calls that take numbers from outside refuse such a number before they ask for its value.
use Rattle.std.specs.Prelude.{Bool, false, cond, ℕ, ◌*◌, ◌/◌, ◌^◌, ℤ, pos, neg_ℤ, Float}
use Rattle.std.specs.Float.{nan, inf, fin}
use Rattle.std.specs.Float.Ieee.{up, down}

-- the size in units of 2^-1074: m * 2^e, where 2^e is up e / down e
unfoldable pub size : Float → ℕ
size nan = 0
size (inf s) = 0
size (fin s m e) = m * up e * 2 ^ 1074 / down e

unfoldable pub negative : Float → Bool
negative nan = false
negative (inf s) = false
negative (fin s m e) = s

-- the number in units of 2^-1074
abbrev pub whole : Float → ℤ
whole x = cond (negative x) (neg_ℤ (pos (size x))) (pos (size x))
