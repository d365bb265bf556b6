-- A row's key from the places of its four numbers, by which end comes first.
use mathlib.Core.Path.{◌≡◌}
use mathlib.Core.Bool.{true, false}
use mathlib.Core.List.{List, [], ◌∷◌}
use Prim.Native.Nat.{ℕ}
use lib.ListN.{get_or}
use Rattle.numbers.specs.Words.{unsigned_word}
use Rattle.events.specs.Binary64.{as_loaded}
use Rattle.sheet.specs.Stored.{edge_of_row}
use Rattle.sorting.specs.Rows.{at_most}
use Rattle.arranging.specs.Order.{rank, corner_key, edge_key}
use Rattle.arranging.specs.Arranged.{from_earlier, plain}
use Rattle.arranging.specs.Steps.{key_of_row}

module _ (r : List ℕ) (px py qx qy : ℕ) (a : px ≡ rank (unsigned_word (get_or r 0 0))) (b : py ≡ rank (unsigned_word (get_or r 1 0))) (c : qx ≡ rank (unsigned_word (get_or r 2 0))) (d : qy ≡ rank (unsigned_word (get_or r 3 0))) where
  pub key-kept : true ≡ at_most (px ∷ py ∷ []) (qx ∷ qy ∷ []) → px ∷ py ∷ qx ∷ qy ∷ get_or r 4 0 ∷ [] ≡ key_of_row r
  unfolding key_of_row edge_key corner_key plain from_earlier as_loaded edge_of_row
  key-kept e = rw (← a, ← b, ← c, ← d, ← e, a, b, c, d)

  pub key-turned : false ≡ at_most (px ∷ py ∷ []) (qx ∷ qy ∷ []) → qx ∷ qy ∷ px ∷ py ∷ get_or r 4 0 ∷ [] ≡ key_of_row r
  unfolding key_of_row edge_key corner_key plain from_earlier as_loaded edge_of_row
  key-turned e = rw (← a, ← b, ← c, ← d, ← e, a, b, c, d)
