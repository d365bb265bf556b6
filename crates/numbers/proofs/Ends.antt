-- What lies between the infinities is finite, and the library's test of not-a-number is the definition's, by cases.
use mathlib.Core.Path.{◌≡◌, refl, ap}
use mathlib.Core.Bool.{Bool, true, false, not, ◌&&◌}
use Prim.Native.Nat.{◌*◌}
use borrow.Author.Tests.{eq-eqb}
use lib.Ieee.{Float, nan, inf, fin, binary64, of_bits, lt, eq, ne, is_nan, up, down}
use Rattle.numbers.specs.Binary64.{not_finite}

pub not_finite_is : (x : Float) → not_finite x ≡ not (lt (of_bits binary64 0xfff0_0000_0000_0000) x && lt x (of_bits binary64 0x7ff0_0000_0000_0000))
unfolding lt of_bits not_finite
not_finite_is nan = refl
not_finite_is (inf true) = refl
not_finite_is (inf false) = refl
not_finite_is (fin s m e) = refl

-- only not-a-number differs from itself
pub differs_is : (x : Float) → ne x x ≡ is_nan x
unfolding ne eq is_nan
differs_is nan = refl
differs_is (inf true) = refl
differs_is (inf false) = refl
differs_is (fin true m e) = ap (λ (b : Bool). not (b && true)) (eq-eqb (m * up e * down e) _ refl)
differs_is (fin false m e) = ap (λ (b : Bool). not (b && true)) (eq-eqb (m * up e * down e) _ refl)
