-- The lent edges as a list: how many there are, and the one at a place.
use mathlib.Core.Path.{◌≡◌, refl}
use mathlib.Core.List.{List, [], ◌∷◌}
use Prim.Native.Nat.{ℕ, zero, suc, ◌<◌, min}
use native.Mathlib.Omega.{arith}
use lib.ListN.{length, drop}
use Rattle.loading.specs.OnPool.{edges_of, edge_at}

pub length-edges : (ends : List (List ℕ)) (labels : List (List ℕ)) → length (edges_of ends labels) ≡ min (length ends) (length labels)
unfolding edges_of
length-edges [] labels = omega arith
length-edges (e ∷ ends) [] = omega arith
length-edges (e ∷ ends) (l ∷ labels) =
    let rest = length-edges ends labels in
    omega arith

-- after i edges, the one at i is next
pub next : (ends : List (List ℕ)) (labels : List (List ℕ)) (i : ℕ) → i < length (edges_of ends labels) → drop i (edges_of ends labels) ≡ edge_at ends labels i ∷ drop (suc i) (edges_of ends labels)
unfolding edges_of edge_at
next [] labels i h = absurd (omega arith)
next (e ∷ ends) [] i h = absurd (omega arith)
next (e ∷ ends) (l ∷ labels) zero h = refl
next (e ∷ ends) (l ∷ labels) (suc i) h = next ends labels i (omega arith)
