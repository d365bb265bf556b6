-- Which of two corners comes first, by comparing their numbers one after the other.
use mathlib.Core.Path.{◌≡◌, sym, ◌∙◌}
use mathlib.Core.Bool.{false}
use mathlib.Core.List.{[], ◌∷◌}
use Prim.Native.Nat.{ℕ, ◌≤◌, ◌<◌}
use native.Mathlib.Omega.{arith}
use borrow.Author.Tests.{le-leb, lt-leb}
use lib.Dec.{leb}
use Rattle.sorting.specs.Rows.{at_most}
use Rattle.sorting.proofs.Order.{less, more, same, Three, Less, Same, More, three, reflexive}

module _ (px py qx qy : ℕ) where
  pub first_more : qx < px → false ≡ at_most (px ∷ py ∷ []) (qx ∷ qy ∷ [])
  first_more h = sym (more px qx (py ∷ []) (qy ∷ []) h)

  pub first-same : qx ≤ px → px ≤ qx → leb py qy ≡ at_most (px ∷ py ∷ []) (qx ∷ qy ∷ [])
  first-same h k = go (three py qy) ∙ sym (same px qx (py ∷ []) (qy ∷ []) (omega arith))
    where
      go : Three py qy → leb py qy ≡ at_most (py ∷ []) (qy ∷ [])
      go (Less l) = le-leb py qy (omega arith) ∙ sym (less py qy [] [] l)
      go (Same e) = le-leb py qy (omega arith) ∙ sym (same py qy [] [] e ∙ reflexive [])
      go (More l) = lt-leb py qy l ∙ sym (more py qy [] [] l)
