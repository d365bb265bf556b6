-- The members of a list that a test holds of, counted.
use mathlib.Core.Path.{◌≡◌, refl, ap, ◌∙◌}
use mathlib.Core.Bool.{Bool, cond}
use mathlib.Core.List.{List, [], ◌∷◌}
use Prim.Native.Nat.{ℕ}
use lib.ListN.{length}
use Rattle.std.specs.List.{filter, count_by}
use Rattle.std.proofs.lemmas.List.Sums.{length-filter}
use Rattle.contours.specs.Result.{keep}

keep-is : (test : ℕ → Bool) (list : List ℕ) → keep test list ≡ filter test list
unfolding keep
keep-is test [] = refl
keep-is test (a ∷ list) = ap (λ kept. cond (test a) (a ∷ kept) kept) (keep-is test list)

pub length-keep : (test : ℕ → Bool) (list : List ℕ) → length (keep test list) ≡ count_by test list
length-keep test list = ap length (keep-is test list) ∙ length-filter test list
