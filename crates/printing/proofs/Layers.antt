-- The lines of a layer's edges, one by one.
use mathlib.Core.Path.{refl}
use mathlib.Core.List.{List, map}
use Prim.Native.Nat.{ℕ, ◌≤◌}
use lib.ListN.{length, length-map}
use Rattle.sheet.specs.Sheet.{count_line, edge_line, edge_lines, layer_bytes}
use Rattle.sheet.specs.Stored.{edge_of_row}
use Rattle.printing.specs.Put.{Put}
use Rattle.printing.proofs.Goings.{then, Lines}

pub edge-each : Lines (λ l. edge_lines (map edge_of_row l)) (λ r. edge_line (edge_of_row r))
unfolding edge_lines
edge-each = record { none = refl; more = λ r l. refl }

-- as many as there are rows
pub layer-put : {out₀ : List ℕ} {at : ℕ} (word : List ℕ) (rows : List (List ℕ)) → length out₀ ≤ 18446744073709551615 → {out₁ : List ℕ} {p₁ : ℕ} {out₂ : List ℕ} {p₂ : ℕ} → Put out₀ at (count_line word (length rows)) out₁ p₁ → Put out₁ p₁ (edge_lines (map edge_of_row rows)) out₂ p₂ → Put out₀ at (layer_bytes word (map edge_of_row rows)) out₂ p₂
unfolding layer_bytes
layer-put word rows room a b = rw (length-map rows edge_of_row) (then room a b)
