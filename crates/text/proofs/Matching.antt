-- The library's test of a beginning is the definition's.
use mathlib.Core.Path.{◌≡◌, refl}
use mathlib.Core.List.{List, [], ◌∷◌}
use Prim.Native.Nat.{ℕ, min}
use native.Mathlib.Omega.{arith}
use lib.Dec.{eqb}
use lib.ListN.{length, drop}
use Rattle.std.specs.List.{starts_with, between}
use Rattle.std.proofs.lemmas.Bool.Decides.{nat_tests}
use Rattle.std.proofs.lemmas.List.{drop_min}
use Rattle.std.proofs.lemmas.Slice.{between_to_end}
use Rattle.text.specs.Words.{begins}

begins_is : (word s : List ℕ) → begins word s ≡ starts_with eqb s word
unfolding begins
begins_is [] s = refl
begins_is (b ∷ word) [] = refl
begins_is (b ∷ word) (c ∷ s) = let h = begins_is word s in grind (arith, nat_tests)

-- the same of what follows a place, which may lie past the end
pub begins_at : (word s : List ℕ) (at : ℕ) → begins word (drop at s) ≡ starts_with eqb (between (min at (length s)) (length s) s) word
begins_at word s at = rw (between_to_end s (min at (length s)) (length s) (omega arith), drop_min at s) (begins_is word (drop at s))
