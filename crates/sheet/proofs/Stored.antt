-- An edge stored as a row of words is there again, and in the form that loading takes it is what the edge itself gives.
use mathlib.Core.Path.{◌≡◌, refl}
use mathlib.Core.List.{List, [], ◌∷◌, map}
use Prim.Native.Nat.{ℕ}
use native.Mathlib.Nat.{mod-eq_of_lt}
use Rattle.sheet.specs.declared.edges.Edge.{Edge}
use Rattle.sheet.specs.Sheet.{EdgeFits, AllFit}
use Rattle.sheet.specs.Stored.{row_of, edge_of_row, ends_of, labels_of, ends_of_row, labels_of_row}

pub edge-of-row : (e : Edge) → edge_of_row (row_of e) ≡ e
unfolding row_of edge_of_row
edge-of-row e = refl

pub ends-of-rows : (l : List Edge) → map ends_of_row (map row_of l) ≡ map ends_of l
unfolding ends_of_row
ends-of-rows [] = refl
ends-of-rows (e ∷ l) = rw (edge-of-row e, ends-of-rows l)

labels-of-row : (k : ℕ) (e : Edge) → EdgeFits e → labels_of_row k (row_of e) ≡ labels_of k e
unfolding row_of labels_of labels_of_row
labels-of-row k e h = rw (mod-eq_of_lt h.ring)

-- a ring that fits is its word's last 32 bits
pub labels-of-rows : (k : ℕ) (l : List Edge) → AllFit l → map (labels_of_row k) (map row_of l) ≡ map (labels_of k) l
labels-of-rows k [] h = refl
labels-of-rows k (e ∷ l) h = rw (labels-of-row k e h.0, labels-of-rows k l h.1)
