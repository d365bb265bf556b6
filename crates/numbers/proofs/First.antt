-- The library's search from the first number on tells the place of the first that is not finite.
use mathlib.Core.Path.{◌≡◌, refl}
use mathlib.Core.Bool.{not}
use mathlib.Core.List.{List}
use Prim.Native.Nat.{◌≤◌}
use native.Mathlib.Omega.{arith}
use borrow.Author.Rules.{rules}
use lib.ListN.{length}
use lib.Ieee.{Float}
use Rattle.std.specs.Option.{unwrap_or}
use Rattle.std.specs.List.{position, position_or_len}
use Rattle.std.proofs.lemmas.List.Recursion.{is_position_or_len}
use Rattle.std.proofs.lemmas.List.Sums.{prefix_len-le-length}
use Rattle.std.proofs.lemmas.Bool.Decides.{nat_tests}
use Rattle.numbers.specs.Binary64.{not_finite, first_not_finite}

first_is : (xs : List Float) → first_not_finite xs ≡ position_or_len not_finite xs
unfolding first_not_finite
first_is xs = is_position_or_len first_not_finite not_finite refl (λ x l. search rules) xs

pub position_is_first : (xs : List Float) → unwrap_or (position not_finite xs) (length xs) ≡ first_not_finite xs
position_is_first xs =
    let within : position_or_len not_finite xs ≤ length xs = prefix_len-le-length (λ x. not (not_finite x)) xs in
    rw (first_is xs) (grind (arith, nat_tests))
