-- The digits that stand in front are those that the library counts.
use mathlib.Core.Path.{◌≡◌, refl}
use mathlib.Core.List.{List, [], ◌∷◌}
use Prim.Native.Nat.{ℕ, suc, ◌+◌}
use native.Mathlib.Omega.{arith}
use lib.Dec.{ltb}
use Rattle.text.specs.Digits.{digit_of}
use Rattle.std.specs.Char.{is_ascii_digit}
use Rattle.std.specs.List.{prefix_len}
use Rattle.std.proofs.lemmas.Bool.Decides.{nat_tests}
use Rattle.sheet.specs.Reading.{run}

digit-is : (b : ℕ) → is_ascii_digit b ≡ ltb (digit_of b) 10
unfolding digit_of
digit-is b = grind (arith, nat_tests)

pub run_is : (s : List ℕ) → prefix_len is_ascii_digit s ≡ run s
unfolding run
run_is [] = refl
run_is (b ∷ s) = let one : 1 + run s ≡ suc (run s) = omega arith in rw (digit-is b, run_is s, one)
