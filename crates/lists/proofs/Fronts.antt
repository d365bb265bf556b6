-- A list that is stored from an array's first place on stands in front of what the array held behind it.
use mathlib.Core.Path.{◌≡◌, ◌∙◌}
use mathlib.Core.List.{List, ◌++◌}
use Prim.Native.Nat.{ℕ, ◌≤◌}
use native.Mathlib.Nat.{zero-add}
use native.Mathlib.Omega.{arith}
use lib.ListN.{length, take, drop}
use lib.Seq.{sets, sets-eq, take-append_seam}

module _ {A : Type 0} (lent l : List A) where
  pub sets-front : length l ≤ length lent → sets lent 0 l ≡ l ++ drop (length l) lent
  sets-front h = sets-eq l lent 0 (omega arith) ∙ rw zero-add

  pub first-are : (n : ℕ) → n ≡ length l → n ≤ length lent → take n (sets lent 0 l) ≡ l
  first-are n e h = rw (sets-front (omega arith), e) (take-append_seam l (drop (length l) lent))
